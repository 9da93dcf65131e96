use Rattle.std.proofs.Common.{◌≡◌, List, sym, ap, ◌∙◌, subst}
use mathlib.Core.List.{IsPrefix}
use Rattle.qplain.specs.declared.entry.Entry.{Entry}
use Rattle.qplain.specs.State.{State}
use Rattle.qplain.specs.Journal.{IsLegal}
use Rattle.qshare_boards.specs.declared.sheet.Sealed.{Sealed}
use Rattle.qshare_boards.specs.Boards.{shown_of}
use Rattle.qshare_boards.specs.Sheets.{board_and, board_in, sealed_in}
use Rattle.qshare_boards.proofs.Rules.{brings}
use Rattle.qshare_boards.proofs.publisher.shown.Goals as goal

pub publish_as-requires : goal.publish_as-requires
publish_as-requires g c next is =
    let x = c.args.writer.desk.shown.value in
    let S : State = g.S.StoreId.id.begun in
    let on = c.requires.leads.on in
    let all : sealed_in next ≡ board_and S c.args.prefix.now = is ∙ c.requires.leads.leads in
    let entries : next.prefix.entries ≡ c.args.prefix.now.entries = ap (λ (s : Sealed). s.prefix.entries) all in
    let more : IsPrefix x.prefix.entries next.prefix.entries =
    subst (λ (l : List Entry). IsPrefix x.prefix.entries l) (sym entries) on.begins in
    let board : board_in next ≡ shown_of S next.prefix.entries = ap (λ (s : Sealed). s.board) all ∙ ap (shown_of S) (sym entries) in
    brings _ _ _ _ x next more (ap (λ (s : Sealed). s.prefix.history) all ∙ on.of.history)
    (subst (IsLegal S) (sym entries) on.of.legal) board

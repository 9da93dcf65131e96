use Rattle.std.proofs.Common.{◌≡◌, length, sym, ◌∙◌, ap}
use Rattle.qshare_history.proofs.Adding.{adds_moves}
use Rattle.qshare_history.proofs.prefix.Prefix.add.Goals as goal

pub compare_exchange-found-requires : goal.compare_exchange-found-requires
compare_exchange-found-requires c =
    let h = c.requires.head in
    let offer = c.plain-offer.ensures in
    let pen = c.no_pen-pen.ensures in
    let again = c.again-seen.ensures in
    let log : c.again-seen.result.log ≡ c.self.inside.seen.log = ap (λ s. s.log) again in
    let book : c.again-seen.result.book ≡ c.args.self.now.history = ap (λ s. s.book) again ∙ ap (λ p. p.history) c.self.view_is in
    let long : length c.again-seen.result.log ≡ c.self.inside.len = ap length log ∙ sym c.self.invariant in (
      ap (λ w. w.tracked) h,
      book ∙ sym (ap (λ w. w.book) h),
      pen.0 ∙ book ∙ sym (ap (λ w. w.book) h),
      offer.0,
      rw (ap (λ w. w.key) h, pen.1, offer.1, offer.3) (adds_moves c.again-seen.result.log c.args.entry.now c.self.inside.len long),
    )

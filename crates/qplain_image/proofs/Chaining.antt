-- Journals in parts are one journal, and the other way round.
use Rattle.std.proofs.Common.{◌≡◌, List, [], ◌∷◌, ◌++◌, refl, ◌∙◌}
use Rattle.std.proofs.lemmas.List.Sums.{fold-append}
use Rattle.qplain.specs.declared.entry.Entry.{Entry}
use Rattle.qplain.specs.State.{State}
use Rattle.qplain.specs.Journal.{IsLegal, play, played}
use Rattle.qplain_image.specs.Chains.{ChainsAreLegal, ChainsLeaveTheLast, PartsAreChains, joined}

-- one journal and another
play-both : (S : State) (one other : List Entry) → play S (one ++ other) ≡ play (play S one) other
play-both S one other = fold-append (λ T e. (played T e).0) S one other

legal-both : (S : State) (one other : List Entry) → IsLegal S one → IsLegal (play S one) other → IsLegal S (one ++ other)
legal-both S [] other first second = second
legal-both S (e ∷ one) other first second = (first.0, legal-both (played S e).0 one other first.1 second)

legal-parts : (S : State) (one other : List Entry) → IsLegal S (one ++ other) → IsLegal S one × IsLegal (play S one) other
legal-parts S [] other legal = (tt, legal)
legal-parts S (e ∷ one) other legal =
    let rest = legal-parts (played S e).0 one other legal.1 in
    ((legal.0, rest.0), rest.1)

pub chains_are_legal : ChainsAreLegal
chains_are_legal S [] chain = tt
chains_are_legal S (journal ∷ rest) chain =
    legal-both S journal (joined rest) chain.0 (chains_are_legal (play S journal) rest chain.1)

pub chains_leave_the_last : ChainsLeaveTheLast
chains_leave_the_last S [] = refl
chains_leave_the_last S (journal ∷ rest) = play-both S journal (joined rest) ∙ chains_leave_the_last (play S journal) rest

pub parts_are_chains : PartsAreChains
parts_are_chains S [] legal = tt
parts_are_chains S (journal ∷ rest) legal =
    let parts = legal-parts S journal (joined rest) legal in
    (parts.0, parts_are_chains (play S journal) rest parts.1)

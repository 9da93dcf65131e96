-- Paths, kinds, owners and limits that were read are spelled out as they stood.
use Rattle.std.proofs.Common.{◌≡◌, ℕ, ◌-◌, ◌<◌, ◌^◌, Bool, true, false, cond, not, eqb, List, [], ◌∷◌, length, None, Ok, Err, refl, arith, codes, decimal}
use Rattle.std.specs.List.{list_all}
use Rattle.std.specs.Str.{bytes_eq}
use Rattle.std.proofs.lemmas.Bool.{and_parts}
use Rattle.qrules.specs.declared.kind.Kind.TheVariants.{User, Group, Project}
use Rattle.qrules.specs.declared.kind.Kind.{Kind}
use Rattle.qrules.specs.Kinds.{is_same_kind}
use Rattle.qrules.specs.declared.limits.Limits.{Limits}
use Rattle.qplain.specs.Paths.{ArePathBytes, is_path_byte}
use Rattle.qplain.specs.declared.edition.Edition.{Edition}
use Rattle.qplain.specs.declared.edition.Edition.TheVariants.{One, Two}
use Rattle.qtext.specs.declared.text_fault.TextKind.{TextKind}
use Rattle.qtext.specs.declared.text_fault.TextKind.TheVariants.{BadNumber, BadWord}
use Rattle.qtext.specs.Words.{id_of, number}
use Rattle.qtext.specs.RuleWords.{kind_text}
use Rattle.qtext.proofs.StepsFound.{kept, chosen, told, Spells, same_ok, word_found}
use Rattle.qtext.proofs.WordsFound.{number_found}
use Rattle.qtext_read.specs.Arguments.{path_of, kind_of, project_kind_of, owner_of}
use Rattle.qtext_read.specs.RepliesRead.{limits_of}
use Rattle.qtext_read.specs.Spelling.{limits_words, owner_text}
use Rattle.qplain.specs.Ranges.{AreLimits, IsOwner}
use Rattle.qtext_read.proofs.Editions.{OnlyInTwo, in_two}

pub any_path : Spells (λ path. path) ArePathBytes path_of
unfolding path_of
any_path word path e =
    let is = kept _ (Ok word) BadWord path e in
    let parts = and_parts (not (eqb (length word) 0)) (list_all is_path_byte word) is.0 in
    rw (← same_ok is.1) (refl, record { some = parts.0; each = parts.1 })

no_kind : (test : Bool) (kind : Kind) → cond test (Err BadWord) (Err BadWord) ≡ Ok kind → ⊥
no_kind true kind e = cc e
no_kind false kind e = cc e

-- a kind's word, and in edition 1 not that of projects
pub any_kind : (edition : Edition) → Spells kind_text (λ kind. OnlyInTwo edition (is_same_kind Project kind)) (kind_of edition)
unfolding kind_of project_kind_of
any_kind One word kind e =
    chosen (λ k. (kind_text k ≡ word) × OnlyInTwo One (is_same_kind Project k)) word (codes "user") User _ kind e
    (λ same. rw same (refl, λ old. refl))
    (λ e. chosen (λ k. (kind_text k ≡ word) × OnlyInTwo One (is_same_kind Project k)) word (codes "group") Group _ kind e
    (λ same. rw same (refl, λ old. refl))
    (λ e. absurd (no_kind (bytes_eq word (codes "project")) kind e)))
any_kind Two word kind e = (
  told kind_text word User _ kind (told kind_text word Group _ kind (told kind_text word Project _ kind (λ none. absurd (cc none)))) e,
  in_two (is_same_kind Project kind),
)

pub any_number : Spells decimal (λ n. n < 2 ^ 64) number
any_number word n e = let is = number_found BadNumber (2 ^ 64 - 1) word n (omega arith) e in (is.0, omega (arith, is.1))

pub any_id : (fault : TextKind) → Spells decimal (λ id. id < 2 ^ 32) (id_of fault)
any_id fault word id e = let is = number_found fault (2 ^ 32 - 1) word id (omega arith) e in (is.0, omega (arith, is.1))

pub any_owner : Spells owner_text IsOwner owner_of
unfolding owner_of
any_owner word owner e =
    chosen (λ o. (owner_text o ≡ word) × IsOwner o) word (codes "-") None _ owner e (λ dash. rw dash (refl, tt))
    (λ e. word_found (any_id BadNumber) word _ e (λ id is fits e. rw (← same_ok e) (is, fits)))

pub any_limits : (bs bh is ih : List ℕ) (l : Limits) → limits_of bs bh is ih ≡ Ok l → (limits_words l ≡ bs ∷ bh ∷ is ∷ ih ∷ []) × AreLimits l
unfolding limits_of
any_limits bs bh is ih l e =
    word_found any_number bs _ e λ block_soft sbs fbs e.
    word_found any_number bh _ e λ block_hard sbh fbh e.
    word_found any_number is _ e λ inode_soft sis fis e.
    word_found any_number ih _ e λ inode_hard sih fih e.
    rw (← same_ok e, sbs, sbh, sis, sih) (refl, record { block_soft = fbs; block_hard = fbh; inode_soft = fis; inode_hard = fih })

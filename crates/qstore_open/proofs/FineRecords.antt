-- What is known of a record of which nothing is wrong, and of an opening that has taken it in.
use Rattle.std.proofs.Common.{◌≡◌, ℕ, true, not, ◌&&◌, List, [], ◌∷◌, ◌++◌, map, None, refl, ap, ◌∙◌, arith, tests}
use Rattle.std.specs.List.{list_all}
use Rattle.std.proofs.lemmas.Bool.{and_parts}
use Rattle.std.proofs.lemmas.List.{map-append}
use Rattle.qplain.specs.Paths.{is_path_byte}
use Rattle.qplain.specs.Principals.{is_letter, is_name_byte, is_principal_name}
use Rattle.qplain.specs.State.{Holder, State, holder_cmp}
use Rattle.qplain_image.specs.Parts.{HolderPart}
use Rattle.qtext.proofs.Joining.{and_both}
use Rattle.qtext_image.specs.Faults.{is_begun_kind, is_holder_fit}
use Rattle.qtext_image.specs.NextFaults.{are_none, has_graces, holder_fault, is_behind, is_name_taken, may_hold}
use Rattle.qtext_image.specs.Setups.{principal_of, principals_of}
use Rattle.qstore_open.specs.declared.opening.Opening.TheInside.{Inside}
use Rattle.qstore_open.specs.declared.records.ToldRecord.{ToldRecord}
use Rattle.qstore_open.specs.declared.records.ToldRecords.{ToldRecords}
use Rattle.qstore_open.specs.Kept.{state_in, told_in}
use Rattle.qstore_open.specs.Told.{IsPushed, Told, part_of, parts_of}
use Rattle.qstore_open.proofs.ByKind.{fine-later, pushed-parts}
use Rattle.qstore_open.proofs.MoreInodes.{fault-kept}

module _ (S : State) (h : Holder) (none : holder_fault S h ≡ None) where
  held : may_hold S h ≡ true
  held = (fault-kept (may_hold S h) _ _ none).0

  fine-behind : is_behind holder_cmp S.holders h ≡ true
  fine-behind =
      let begun = and_parts _ (is_begun_kind (principals_of h.kind S.holders ++ principal_of h ∷ [])) held in
      (and_parts (has_graces S && are_none S.inodes) (is_behind holder_cmp S.holders h) begun.0).1

  fine-called : is_principal_name h.name ≡ true
  fine-called =
      let fit = fault-kept (is_holder_fit h) _ _ (fault-kept (may_hold S h) _ _ none).1 in
      (and_parts (is_principal_name h.name) (not (is_name_taken S h)) (fault-kept (is_principal_name h.name && not (is_name_taken S h)) _ _ fit.1).0).0

letter-prints : (byte : ℕ) → is_letter byte ≡ true → is_path_byte byte ≡ true
letter-prints byte is = grind (arith, tests, is)

byte-prints : (byte : ℕ) → is_name_byte byte ≡ true → is_path_byte byte ≡ true
byte-prints byte is = grind (arith, tests, is)

bytes-print : (bytes : List ℕ) → list_all is_name_byte bytes ≡ true → list_all is_path_byte bytes ≡ true
bytes-print [] all = refl
bytes-print (b ∷ bytes) all =
    let parts = and_parts (is_name_byte b) (list_all is_name_byte bytes) all in
    and_both (is_path_byte b) (list_all is_path_byte bytes) (byte-prints b parts.0) (bytes-print bytes parts.1)

called-prints : (name : List ℕ) → is_principal_name name ≡ true → list_all is_path_byte name ≡ true
called-prints [] is = absurd (cc is)
called-prints (first ∷ rest) is =
    let short = and_parts (is_letter first && list_all is_name_byte rest) _ is in
    let parts = and_parts (is_letter first) (list_all is_name_byte rest) short.0 in
    and_both (is_path_byte first) (list_all is_path_byte rest) (letter-prints first parts.0) (bytes-print rest parts.1)

pub name-prints : (S : State) (h : Holder) → holder_fault S h ≡ None → list_all is_path_byte h.name ≡ true
name-prints S h none = called-prints h.name (fine-called S h none)

-- the records with the one that is told, and what is told then
pub told-record : (o : Inside) (now : Told) → told_in o ≡ now → (part : HolderPart) (t : ToldRecord) (new : ToldRecords)
    → IsPushed part.holder.kind t o.records new → part_of part.holder.kind t ≡ part → holder_fault now.state part.holder ≡ None
    → told_in (record o { records = new })
    ≡ record { state = record now.state { holders = now.state.holders ++ part.holder ∷ [] }; records = now.records ++ part ∷ [] }
told-record o now view part t new pushed is none =
    let fine : holder_fault (state_in o) part.holder ≡ None = ap (λ x. holder_fault x.state part.holder) view ∙ none in
    let later = fine-later part.holder o.records (fine-behind (state_in o) part.holder fine) in
    let parts : parts_of new ≡ parts_of o.records ++ part ∷ [] =
    pushed-parts part.holder.kind t o.records new pushed later ∙ ap (λ p. parts_of o.records ++ p ∷ []) is in
    (λ i. record { state = record (state_in o) { holders = map (λ x. x.holder) (parts i) }; records = parts i })
    ∙ ap (λ hs. record { state = record (state_in o) { holders = hs }; records = parts_of o.records ++ part ∷ [] })
    (map-append (λ (x : HolderPart). x.holder) (parts_of o.records) (part ∷ []))
    ∙ (λ i. record { state = record (view i).state { holders = (view i).state.holders ++ part.holder ∷ [] }; records = (view i).records ++ part ∷ [] })

-- The machine values of a slot. Assumes `Logic`.
use Rattle.std.proofs.Common.{◌≡◌, List, [], ◌∷◌, ◌++◌, refl, subst, Some, None, Option, IsSome}
use seplogic.Ra.Ura.{Ura}
use mir.Val.{Val, vstruct, of_list}
use types.Logic.{Logic}
use types.Kit.{Item, Goal, Seq, Step, step, ‵, ◌$◌, move, drop, fsplit, fjoin, fpick, fpack, feq_i, feq_l}
use denote.RattleType.{RattleType, Valss}
use denote.Builtin.{RawPtr}
use denote.RawPtr.{Ptr, ptr_val}
use denote.Steps.{nothing}
use denote.Param.{layout}
use denote.Struct.Struct.{within}
use denote.Struct.Owning.{shape, to}
use Rattle.core.proofs.alloc.Calls.{Al, handle_tells}
use Rattle.core.proofs.cell.Inside.{Good}
use Rattle.std_heap.specs.contracts.Global as Heap
use Rattle.std_heap.specs.contracts.GlobalAllocator.TheImpl.{ghosts}
use Rattle.std_heap.proofs.Global.TheLaws as heap
use Rattle.qsession.specs.contracts.kept.Kept as Inner
use mir.Syntax.{impl, tnil, dnil}
use Rattle.std.proofs.lemmas.Bool.{false≢true}
use Rattle.qsession.specs.contracts.slot.Slot as Slot
use Rattle.qsession.specs.Slots.{slot_owns}

abbrev pub R : RattleType
R = Inner.the_row

abbrev pub Z : RattleType
Z = Heap.the_row

abbrev pub al : Al
al = record { row = Z; laws = heap.the_row_laws; g = ghosts; d = impl [] tnil dnil; drops = impl [] tnil dnil }

abbrev pub word : Ptr → Val → Val
word p h = vstruct (of_list (ptr_val p ∷ h ∷ []))

module _ {M : Type 1} {𝓤 : Ura M} {𝓛 : Logic 𝓤} {K : Type 0} {Γ : List (Item 𝓤)} {G : Goal 𝓤 𝓛.H} where
  -- a slot of what is owned at its pointer, and of its allocator
  pub slot_in : K → (p : Ptr) (h : Val) (a : Z.Denot) (x : Option R.Denot)
      → Step K 𝓛 (‵ (Slot.the_row.own_val (record { at = p; alloc = a; kept = x }) (word p h ∷ [])) ∷ Γ) G (‵ (slot_owns a p x) ∷ ‵ (Z.own_val a
      (h ∷ [])) ∷ Γ) G
  slot_in t p h a x = step (λ s. let v : Val = word p h in
      nothing t $ move t (2 ∷ 0 ∷ []) $ fjoin t $ feq_i t (List Val) (ptr_val p ∷ []) (ptr_val p ∷ []) refl $ fjoin t $
      feq_i t (List Val) (v ∷ []) (v ∷ []) refl $ fjoin t $
      fpack t (Valss (RawPtr ∷ Z ∷ [])) (within (shape Slot.the_type) (to Slot.the_type (record { at = p; alloc = a; kept = x })) (v ∷ []))
      (ptr_val p ∷ [], (h ∷ [], tt)) $ fjoin t $ s)

  pub slot_out : K → (d : Slot.the_row.Denot) (vs : List Val)
      → ((h : Val) → vs ≡ word d.at h ∷ [] → Good (layout Z) h → Seq K 𝓛 (‵ (slot_owns d.alloc d.at d.kept) ∷ ‵ (Z.own_val d.alloc (h ∷ [])) ∷ Γ) G)
      → Seq K 𝓛 (‵ (Slot.the_row.own_val d vs) ∷ Γ) G
  slot_out t d vs k =
      fsplit t $ fpick t (λ vss. fsplit t $ feq_l t (λ ev. fsplit t $ feq_l t (λ ep. fsplit t $
      handle_tells al t d.alloc vss.1.0 (λ h ea fits. move t (1 ∷ []) $ drop t $ move t (1 ∷ []) $
      k h (subst (λ (ws : List Val). vs ≡ vstruct (of_list (ptr_val d.at ∷ (ws ++ []))) ∷ []) ea (subst (λ (ps : List Val). vs ≡ vstruct (of_list
      (ps ++ (vss.1.0 ++ []))) ∷ []) ep ev)) fits))))

module _ {A : Type 0} where
  -- what an option that is some holds
  pub value_of : (o : Option A) → IsSome o → (x : A) × (o ≡ Some x)
  value_of (Some x) full = (x, refl)
  value_of None full = absurd (false≢true full)

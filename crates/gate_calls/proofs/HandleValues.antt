-- The machine values of a handle. Assumes `Logic`.
use Rattle.std.proofs.Common.{◌≡◌, ℕ, List, [], ◌∷◌, ◌++◌, refl, subst}
use seplogic.Ra.Ura.{Ura}
use mir.Syntax.{impl, tnil, dnil}
use mir.Raw.{raw as bare}
use mir.Val.{Val, vstruct, of_list}
use base.Logic.{never_e, guard, guard_i, via, ent, snd∗}
use base.Fml.{Fml, ftrue, ffalse}
use base.Fraction.{full_share}
use contract.Monad.{fact_use}
use types.Logic.{Logic, sem}
use types.Kit.{Item, Goal, Seq, Step, step, given, ‵, ◌$◌, move, drop, fsplit, fjoin, fpick, fpack, feq_i, feq_l, use1, learn}
use denote.RattleType.{RattleType, Valss}
use denote.Builtin.{RawPtr}
use denote.Memory.{lone}
use denote.RawPtr.{Ptr, block_ptr, null_ptr, ptr_val, lies_at, Testable}
use denote.Steps.{nothing}
use denote.Param.{layout}
use Rattle.core.specs.declared.option.Option.{Option}
use Rattle.core.specs.declared.option.Option.TheVariants.{None, Some}
use Rattle.core.proofs.alloc.Calls.{Al, handle_tells}
use Rattle.core.proofs.cell.Inside.{Good}
use Rattle.std.specs.contracts.alloc.Global as heap
use Rattle.std.proofs.alloc.Global.TheLaws as heap_laws
use Rattle.std.specs.contracts.impls.GlobalAllocator.TheImpl.{ghosts}
use Rattle.std.proofs.GlobalToken.{dealloc_token-Testable}
use Rattle.std_alloc.specs.Box.Ownership.{box_owns}
use Rattle.gate_calls.specs.Held.{held}
use Rattle.gate_calls.specs.contracts.shared.SharedCaps as inner
use Rattle.gate_calls.specs.contracts.handle.SigTicket as one
use Rattle.gate_calls.proofs.Values.{both}

abbrev pub R : RattleType
R = inner.the_row

abbrev pub Z : RattleType
Z = heap.the_row

abbrev pub H : RattleType
H = one.the_row

abbrev al : Al
al = record { row = Z; laws = heap_laws.the_row_laws; g = ghosts; d = impl [] tnil dnil; drops = impl [] tnil dnil }

module _ {M : Type 1} {𝓤 : Ura M} (𝓛 : Logic 𝓤) (a : Z.Denot) where
  abbrev Boxed : Ptr → R.Denot → Fml
  Boxed p x = box_owns (ghosts.dealloc_token a) R p x

  tested : (p : Ptr) (x : R.Denot) → ent 𝓤 (sem 𝓛 (Boxed p x)) (guard 𝓤 (Testable p) (sem 𝓛 (Boxed p x)))
  tested p x = fact_use 𝓤 (Testable p) (via 𝓤 _ (snd∗ 𝓤 (sem 𝓛 (lies_at R full_share p x)) (sem 𝓛 (ghosts.dealloc_token a (bare (lone R.mir)) p))) (dealloc_token-Testable 𝓛 a (bare (lone R.mir)) p)) (guard_i 𝓤 (Testable p) (sem 𝓛 (Boxed p x)))

module _ {M : Type 1} {𝓤 : Ura M} {𝓛 : Logic 𝓤} {K : Type 0} {Γ : List (Item 𝓤)} {G : Goal 𝓤 𝓛.H} where
  pub held_in : K → (p : Ptr) (h : Val) (a : Z.Denot) (x : Option R.Denot)
      → Step K 𝓛 (‵ (H.own_val (record { at = p; alloc = a; ticket = x }) (both (ptr_val p) h ∷ [])) ∷ Γ) G (‵ (held R a p x) ∷ ‵ (Z.own_val a (h ∷ [])) ∷ Γ) G
  held_in t p h a x = step (λ s. let v : Val = both (ptr_val p) h in
      nothing t $ move t (2 ∷ 0 ∷ []) $ fjoin t $ feq_i t (List Val) (ptr_val p ∷ []) (ptr_val p ∷ []) refl $ fjoin t $ feq_i t (List Val) (v ∷ []) (v ∷ []) refl $ fjoin t $
      fpack t (Valss (RawPtr ∷ Z ∷ [])) _ (ptr_val p ∷ [], (h ∷ [], tt)) $ fjoin t $ s)

  void : K → Seq K 𝓛 (‵ ffalse ∷ Γ) G
  void t = use1 𝓛 (given ⊥ (‵ ftrue)) (never_e 𝓤 _) $ learn t (λ z. absurd z)

  either : K → (a : Z.Denot) (p : Ptr) (x : Option R.Denot) → (p ≡ null_ptr → x ≡ None → Seq K 𝓛 Γ G)
      → ((b o : ℕ) (y : R.Denot) → p ≡ block_ptr b o → x ≡ Some y → Testable (block_ptr b o) → Seq K 𝓛 (‵ (Boxed 𝓛 a (block_ptr b o) y) ∷ Γ) G) → Seq K 𝓛 (‵ (held R a p x) ∷ Γ) G
  either t a null_ptr None none one = drop t $ none refl refl
  either t a null_ptr (Some y) none one = void t
  either t a (block_ptr b o) None none one = void t
  either t a (block_ptr b o) (Some y) none one = use1 𝓛 (given (Testable (block_ptr b o)) (‵ (Boxed 𝓛 a (block_ptr b o) y))) (tested 𝓛 a (block_ptr b o) y) $ learn t (λ m. one b o y refl refl m)

  pub held_out : K → (d : H.Denot) (vs : List Val)
      → ((h : Val) → Good (layout Z) h → vs ≡ both (ptr_val d.at) h ∷ []
      → Seq K 𝓛 (‵ (held R d.alloc d.at d.ticket) ∷ ‵ (Z.own_val d.alloc (h ∷ [])) ∷ Γ) G)
      → Seq K 𝓛 (‵ (H.own_val d vs) ∷ Γ) G
  held_out t d vs k =
      fsplit t $ fpick t (λ vss. fsplit t $ feq_l t (λ ev. fsplit t $ feq_l t (λ ep. fsplit t $ handle_tells al t d.alloc vss.1.0 (λ h ea fits. move t (1 ∷ []) $ drop t $ move t (1 ∷ []) $
      k h fits (subst (λ (ws : List Val). vs ≡ vstruct (of_list (ptr_val d.at ∷ (ws ++ []))) ∷ []) ea (subst (λ (ps : List Val). vs ≡ vstruct (of_list (ps ++ (vss.1.0 ++ []))) ∷ []) ep ev))))))

  pub either_held : K → (a : Z.Denot) (p : Ptr) (x : Option R.Denot) → (p ≡ null_ptr → x ≡ None → Seq K 𝓛 Γ G)
      → ((b o : ℕ) (y : R.Denot) → p ≡ block_ptr b o → x ≡ Some y → Testable (block_ptr b o) → Seq K 𝓛 (‵ (Boxed 𝓛 a (block_ptr b o) y) ∷ Γ) G) → Seq K 𝓛 (‵ (held R a p x) ∷ Γ) G
  either_held = either

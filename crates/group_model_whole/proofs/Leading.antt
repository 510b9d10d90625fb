-- What an active copy that serves keeps: its interval, and that it leads.
use Rattle.std.proofs.Common.{ℕ, ◌≡◌, ◌-◌, Bool, true, false, ◌||◌, List, [], ◌∷◌, ◌++◌, length, take, refl, sym, ◌∙◌, ap, subst, arith, length-append, inl, inr, ◌⊎◌}
use Rattle.std.specs.Prelude.{Option, Some, None}
use Rattle.std.proofs.Math.Seq.{take-append_seam}
use Rattle.std.proofs.lemmas.Bool.{cases_eq}
use Rattle.entry_core.specs.Log.{find}
use Rattle.store_core.specs.Request.{Sealed}
use Rattle.store_core.specs.declared.entry.Entry.{Entry}
use Rattle.group_model_whole.specs.Steps.{Stepped}
use Rattle.group_model_whole.specs.ActingSets.{others}
use Rattle.group_model_whole.specs.Copy.{leads}
use Rattle.group_model_whole.specs.Decided.{with_entry}
use Rattle.group_model_whole.specs.Serve.{push_new, serve_one, serve}
use Rattle.group_model_whole.specs.Types.{Role, Idle, Peering, Installing, Active, Daemon}
use Rattle.group_model_whole.specs.History.{History, but_last}
use Rattle.group_model_whole.proofs.Changes.{changed, changed-grown, changed-grown_other}

pub or_true : (b : Bool) → (b || true) ≡ true
or_true true = refl
or_true false = refl

pub but_last-push : (xs : List Entry) (x : Entry) → but_last (xs ++ x ∷ []) ≡ xs
but_last-push xs x =
    let long : length (xs ++ x ∷ []) - 1 ≡ length xs = omega (arith, length-append xs (x ∷ [])) in
    ap (λ k. take k (xs ++ x ∷ [])) long ∙ take-append_seam xs (x ∷ [])

-- a role that has chosen
abbrev pub IsLeading : Role → Type 0
IsLeading Idle = ⊥
IsLeading (Peering informed) = ⊥
IsLeading (Installing done) = Unit {0}
IsLeading (Active flight) = Unit {0}

-- the copy leads interval n
abbrev pub Grew : ℕ → Daemon → Type 0
Grew n c = (n ≡ c.promise) × IsLeading c.role

pub grew_at : (h : History) (d n : ℕ) (log grown : List Entry) (basis k : ℕ) (c : Daemon) → n ≡ c.promise → IsLeading c.role → (j : ℕ) → ((changed h d n log grown basis k).grown j ≡ h.grown j) ⊎ Grew j c
grew_at h d n log grown basis k c now leads j = elim (cases_eq j n) [
  | inl same ↦ inr (same ∙ now, leads)
  | inr other ↦ inl (changed-grown_other h d n log grown basis k j other)
]

pub grew_same : (h : History) (d n : ℕ) (log : List Entry) (basis k : ℕ) (j : ℕ) → (changed h d n log (h.grown n) basis k).grown j ≡ h.grown j
grew_same h d n log basis k j = elim (cases_eq j n) [
  | inl same ↦ subst (λ v. (changed h d n log (h.grown n) basis k).grown v ≡ h.grown v) (sym same) (changed-grown h d n log (h.grown n) basis k)
  | inr other ↦ changed-grown_other h d n log (h.grown n) basis k j other
]

-- serving leaves the copy active in its interval
pub record Leading (c : Daemon) (s : Stepped) : Type 0 where
  pub promise : c.promise ≡ s.copy.promise
  pub role : IsLeading s.copy.role

push_leads : (ms : List ℕ) (c : Daemon) (s : Sealed) (rest : List Sealed) (after : Stepped) → Leading c after → Leading c (push_new ms c s rest after)
push_leads [] c s rest after a = record { promise = a.promise; role = a.role }
push_leads (m ∷ ms) c s rest after a = record { promise = refl; role = tt }

serve_one_leads : (found : Option Entry) (c : Daemon) (s : Sealed) (rest : List Sealed) (after pushed : Stepped) → Leading c after → Leading c pushed → Leading c (serve_one found c s rest after pushed)
serve_one_leads (Some e) c s rest after pushed a p = record { promise = a.promise; role = a.role }
serve_one_leads None c s rest after pushed a p = push_leads (others c) c s rest pushed p

pub serve_leads : (waiting : List Sealed) (c : Daemon) → Leading c (serve waiting c)
serve_leads [] c = record { promise = refl; role = tt }
serve_leads (s ∷ rest) c =
    let next = serve_leads rest (with_entry c s) in
    serve_one_leads (find c.log s.id) c s rest (serve rest c) (serve rest (with_entry c s)) (serve_leads rest c) (record { promise = next.promise; role = next.role })

-- Whatever happens to a group only adds to what was decided and answered.
use Rattle.std.proofs.Common.{ℕ, ◌≡◌, Bool, true, false, ◌==◌, List, [], ◌∷◌, ◌++◌, refl, sym, subst, if◌then◌else◌}
use Rattle.std.specs.Prelude.{Some}
use Rattle.store_core.specs.declared.entry.Entry.{Entry}
use Rattle.group_model_whole.specs.Each.{Each}
use Rattle.group_model_whole.specs.History.{Begins}
use Rattle.group_model_whole.proofs.Prefixes.{Begins-refl, Begins-trans}
use Rattle.group_model.specs.Types.{EntryReply}
use Rattle.group_model.specs.Group.{Group, Answer, Event, Submit, Deliver, Lose, Repeat, NewInterval, Restart, Kick, run, answer_of}
use Rattle.group_model.proofs.Runs.{run-append}
use Rattle.group_model.proofs.Shown.{Shown, shown, Lasts, Takes, run_holds}

-- facts that no request changes

module _ (Q : Shown → Type 0) (lasts : Lasts Q) (any : (e : Event) → Takes Q lasts e) where
  each_takes : (es : List Event) → Each (Takes Q lasts) es
  each_takes [] = tt
  each_takes (e ∷ es) = (any e, each_takes es)

  lasts_on : (es : List Event) (g : Group) → Q (shown g) → Q (shown (run es g))
  lasts_on es g is = run_holds Q lasts es g (each_takes es) is

-- the audit grows

module _ (audit : List Entry) where
  abbrev Grows : Shown → Type 0
  Grows v = Begins audit v.audit

  grows_lasts : Lasts Grows
  grows_lasts = record {
    hears = λ v a is. is;
    decides = λ v more is. Begins-trans is (record { rest = more; whole = refl });
  }

  grows_any : (e : Event) → Takes Grows grows_lasts e
  grows_any (Submit s) = λ u grown. grown
  grows_any (Deliver k) = tt
  grows_any (Lose k) = tt
  grows_any (Repeat k) = tt
  grows_any (NewInterval acting up) = tt
  grows_any (Restart d) = tt
  grows_any Kick = tt

pub audit_grows : (es fs : List Event) (g : Group) → Begins (run es g).audit (run (es ++ fs) g).audit
audit_grows es fs g =
    let old : List Entry = (run es g).audit in
    subst (λ (v : Group). Begins (run es g).audit v.audit) (sym (run-append es fs g)) (lasts_on (Grows old) (grows_lasts old) (grows_any old) fs (run es g) (Begins-refl old))

-- an answer stands

module _ (id : ℕ) (reply : EntryReply) where
  abbrev Has : Shown → Type 0
  Has v = answer_of v.answers id ≡ Some reply

  has-push : (xs : List Answer) (a : Answer) → answer_of xs id ≡ Some reply → answer_of (xs ++ a ∷ []) id ≡ Some reply
  has-push [] a is = absurd (cc)
  has-push (x ∷ xs) a is = go (x.id == id) is (has-push xs a)
    where
      go : (b : Bool) → (if b then Some x.reply else answer_of xs id) ≡ Some reply → (answer_of xs id ≡ Some reply → answer_of (xs ++ a ∷ []) id ≡ Some reply) → (if b then Some x.reply else answer_of (xs ++ a ∷ []) id) ≡ Some reply
      go true here rest = here
      go false there rest = rest there

  has_lasts : Lasts Has
  has_lasts = record { hears = λ v a is. has-push v.answers a is; decides = λ v more is. is }

  has_any : (e : Event) → Takes Has has_lasts e
  has_any (Submit s) = λ u had. had
  has_any (Deliver k) = tt
  has_any (Lose k) = tt
  has_any (Repeat k) = tt
  has_any (NewInterval acting up) = tt
  has_any (Restart d) = tt
  has_any Kick = tt

  pub answer_stands : (es fs : List Event) (g : Group) → answer_of (run es g).answers id ≡ Some reply → answer_of (run (es ++ fs) g).answers id ≡ Some reply
  answer_stands es fs g is = subst (λ (v : Group). answer_of v.answers id ≡ Some reply) (sym (run-append es fs g)) (lasts_on Has has_lasts has_any fs (run es g) is)

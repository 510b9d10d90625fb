-- What a choice sends to each member agrees.
use Rattle.std.proofs.Common.{ℕ, ◌≡◌, Bool, true, false, not, ◌==◌, ◌||◌, List, [], ◌∷◌, ◌++◌, map, refl, sym, ◌∙◌, ap, subst, inl, inr, if◌then◌else◌}
use Rattle.std.specs.Prelude.{None}
use Rattle.std.specs.List.{list_any, list_all}
use Rattle.std.proofs.lemmas.Bool.{eqb-true, and_parts, or_cases, not-true, both_ways}
use Rattle.entry_core.specs.Log.{Legal, ids, is_in}
use Rattle.store_core.specs.Request.{Sealed}
use Rattle.entry_core.specs.Fitting.{part_of}
use Rattle.store_core.specs.declared.entry.Entry.{Entry}
use Rattle.group_model_whole.specs.ActingSets.{set_of}
use Rattle.group_model_whole.specs.Copy.{install_chosen as whole_install_chosen}
use Rattle.group_model_whole.specs.Steps.{send as whole_send}
use Rattle.group_model_whole.specs.Types.{PeerInfo, Role as WholeRole, Installing as WholeInstalling, Active as WholeActive, Install as WholeInstall, Osd}
use Rattle.group_model_whole.specs.Each.{Each}
use Rattle.group_model_whole.specs.Asked.{IsAsked, InLog}
use Rattle.group_model_whole.specs.History.{History}
use Rattle.group_model.specs.Types.{Offer, Active, Copy}
use Rattle.peer_core.specs.ActingSets.{others}
use Rattle.group_messages.specs.Beginnings.{told_ids, common, common_of, count_at}
use Rattle.peer_core.specs.Copy.{install_from, install_chosen}
use Rattle.group_model.specs.Standing.{Both}
use Rattle.group_model.proofs.Agreeing.{IsPart, OfferAgrees, InstallAgrees, SentAgrees, StepAgrees, whole}
use Rattle.group_model.proofs.Lists.{Both-map_each, Each-in, in-filter}
use Rattle.group_model.proofs.Leading.{same_leading, common_within, ids_in_pieces}
use Rattle.group_model.proofs.SuffixServing.{serve_agrees}

pub count_of : (f : ℕ → ℕ) (ms : List ℕ) (m : ℕ) → is_in ms m ≡ true → count_at (map (λ i. record { member = i; count = f i }) ms) m ≡ f m
count_of f [] m is = absurd (both_ways false refl is)
count_of f (i ∷ ms) m is = go (i == m) refl is (λ later. count_of f ms m later)
  where
    go : (b : Bool) → (i == m) ≡ b → (b || is_in ms m) ≡ true → (is_in ms m ≡ true → count_at (map (λ j. record { member = j; count = f j }) ms) m ≡ f m) → (if b then f i else count_at (map (λ j. record { member = j; count = f j }) ms) m) ≡ f m
    go true e here rest = ap f (eqb-true i m e)
    go false e later rest = rest later

pub all_at : (test : ℕ → Bool) (ms : List ℕ) (m : ℕ) → list_all test ms ≡ true → is_in ms m ≡ true → test m ≡ true
all_at test [] m all bad = absurd (both_ways false refl bad)
all_at test (i ∷ ms) m all is =
    let parts = and_parts (test i) (list_all test ms) all in
    elim (or_cases (i == m) (is_in ms m) is) [
      | inl here ↦ subst (λ v. test v ≡ true) (eqb-true i m here) parts.0
      | inr later ↦ all_at test ms m parts.1 later
    ]

-- each other member was heard, where every member was
pub heard_other : (c : Copy) (test : ℕ → Bool) (m : ℕ) → list_all (λ v. (v == c.number) || test v) (set_of c.known c.promise) ≡ true → is_in (others c) m ≡ true → test m ≡ true
heard_other c test m all is =
    let two = in-filter (λ v. not (v == c.number)) (set_of c.known c.promise) m is in
    elim (or_cases (m == c.number) (test m) (all_at (λ v. (v == c.number) || test v) (set_of c.known c.promise) m all two.0)) [
      | inl own ↦ absurd (both_ways (m == c.number) (not-true (m == c.number) two.1) own)
      | inr other ↦ other
    ]

-- the numbers that were told to this copy are those of the other's log
told_is : (mine log : List Entry) (i : Offer) → IsPart mine log i.start i.part → told_ids mine i ≡ ids log
told_is mine log i is =
    (λ k. ids (is.same k) ++ map (λ (s : Sealed). s.id) (is.part_is k)) ∙ ids_in_pieces log i.start

module _ (requests : List Sealed) (p : ℕ → ℕ) (h : History) (n : ℕ) (mine log : List Entry) (legal : Legal log) (asked : InLog (IsAsked requests) log) where
  one_install : (i : Offer) (o : PeerInfo) → OfferAgrees p h n mine i o → Legal o.log → InLog (IsAsked requests) o.log → InstallAgrees p h n o.number log (common (told_ids mine i) (ids log)) (part_of log (common (told_ids mine i) (ids log)))
  one_install i o a legal' asked' =
      subst (λ v. InstallAgrees p h n o.number log (common v (ids log)) (part_of log (common v (ids log)))) (sym (told_is mine o.log i a.told.is_part)) (record {
        theirs = o.log;
        past = a.told.past;
        is_part = record {
          within = (common_within o.log log).0;
          within_log = (common_within o.log log).1;
          same = same_leading requests o.log log legal' legal asked' asked;
          part_is = refl;
        };
      })

  pub member_install : (informed : List Offer) (infos : List PeerInfo) (m : ℕ) → Both (OfferAgrees p h n mine) informed infos → Each (λ (o : PeerInfo). Legal o.log × InLog (IsAsked requests) o.log) infos →
      list_any (λ o. o.number == m) infos ≡ true → InstallAgrees p h n m log (common_of informed mine log m) (part_of log (common_of informed mine log m))
  member_install [] [] m both each bad = absurd (both_ways false refl bad)
  member_install [] (o ∷ os) m both each any = absurd both
  member_install (i ∷ is) [] m both each any = absurd both
  member_install (i ∷ is) (o ∷ os) m both each any = go (i.number == m) refl (λ later. member_install is os m both.1 each.1 later)
    where
      other : (i.number == m) ≡ false → list_any (λ o. o.number == m) os ≡ true
      other e = elim (or_cases (o.number == m) (list_any (λ o. o.number == m) os) any) [
        | inl here ↦ absurd (both_ways (i.number == m) e (ap (λ v. v == m) both.0.number ∙ here))
        | inr later ↦ later
      ]

      go : (b : Bool) → (i.number == m) ≡ b → (list_any (λ o. o.number == m) os ≡ true → InstallAgrees p h n m log (common_of is mine log m) (part_of log (common_of is mine log m))) → InstallAgrees p h n m log (if b then common (told_ids mine i) (ids log) else common_of is mine log m) (part_of log (if b then common (told_ids mine i) (ids log) else common_of is mine log m))
      go true e rest = subst (λ v. InstallAgrees p h n v log (common (told_ids mine i) (ids log)) (part_of log (common (told_ids mine i) (ids log))))
          (sym both.0.number ∙ eqb-true i.number m e) (one_install i o both.0 each.0.0 each.0.1)
      go false e rest = rest (other e)

pub install_sent : (p : ℕ → ℕ) (h : History) (c : Copy) (r : WholeRole) (log : List Entry) (m count : ℕ) → InstallAgrees p h c.promise m log count (part_of log count) → SentAgrees p h (install_from c log m count) (whole_send (whole c r) (Osd m) (WholeInstall c.promise log))
install_sent p h c r log m count a = record { from = refl; to = refl; body = record { log = log; is = refl; agrees = a } }

-- the chosen log is this copy's, and goes to each other member
pub install_agrees : (p : ℕ → ℕ) (h : History) (c : Copy) (r : WholeRole) (informed : List Offer) (log : List Entry) (ms : List ℕ) → others c ≡ ms →
    ((m : ℕ) → is_in ms m ≡ true → InstallAgrees p h c.promise m log (common_of informed c.log log m) (part_of log (common_of informed c.log log m))) →
    StepAgrees p h (install_chosen c informed log ms) (whole_install_chosen (whole c r) log ms)
install_agrees p h c r informed log [] same each = serve_agrees p h c.waiting (record c { base = c.promise; log = log; role = Active None }) (WholeActive None)
install_agrees p h c r informed log (i ∷ ms) same each = record {
  copy = record {
    role = WholeInstalling [];
    is = refl;
    agrees = (
      refl,
      λ m is. (
          let is' : is_in (i ∷ ms) m ≡ true = subst (λ l. is_in l m ≡ true) same is in
          subst (λ v. InstallAgrees p h c.promise m log v (part_of log v)) (sym (count_of (λ v. common_of informed c.log log v) (i ∷ ms) m is')) (each m is')),
    );
  };
  sent = Both-map_each (SentAgrees p h) (λ m. InstallAgrees p h c.promise m log (common_of informed c.log log m) (part_of log (common_of informed c.log log m)))
      (λ m. install_from c log m (common_of informed c.log log m)) (λ m. whole_send (whole c r) (Osd m) (WholeInstall c.promise log))
      (λ m a. install_sent p h c r log m (common_of informed c.log log m) a) (i ∷ ms)
      (Each-in (λ m. InstallAgrees p h c.promise m log (common_of informed c.log log m) (part_of log (common_of informed c.log log m))) (i ∷ ms) each);
}

-- Runs tell what was decided.
use Rattle.std.proofs.Common.{◌≡◌, ◌∙◌, ℕ, ◌≤◌, ◌<◌, ◌-◌, List, ◌∷◌, ◌++◌, Bool, true, false, if◌then◌else◌, Option, Some, None, refl, sym, ap, subst, arith, append-nil, length, take, drop, length-drop, length-append, []}
use Rattle.std.specs.Prelude.{nat_lt}
use Rattle.std.specs.Option.{option_map}
use Rattle.std.proofs.lemmas.List.{take-append-le, drop-append-le, drop_all}
use Rattle.std.proofs.lemmas.Grind.{flat_map-append}
use Rattle.std.proofs.lemmas.Bool.{ltb-true, lt-ltb}
use Rattle.store_core.specs.declared.entry.Entry.{Entry}
use Rattle.store_core.specs.declared.sealed.GroupId.{GroupId}
use Rattle.group_model_whole.specs.Each.{Each}
use Rattle.group_model_whole.specs.History.{Begins}
use Rattle.group_model.specs.Group.{Group, Event, group_step}
use Rattle.group_model.proofs.Additions.{audit_grows}
use Rattle.world_front.specs.Groups.{is_same_group}
use Rattle.world_core.specs.World.{World, Part, group_at, act, decided_in, created_by}
use Rattle.world_core.specs.Standing.{audit_in, audit_at}
use Rattle.world_laws.specs.Audit.{Run, entries_of, told_by, Fits, run_of, RunsTell}
use Rattle.world_front.proofs.Merge.{same_group}
use Rattle.world_core.proofs.Standing.{step_is}
use Rattle.world_core.proofs.Acting.{group_at_self, group_at_other, each_join, each_weaker}
use Rattle.world_core.proofs.Worlds.{created_new, joined_audits}
use Rattle.world_core.proofs.Runs.{same_begins, all_of_it}

-- ---- longer lists

abbrev Longer : List Group → List Group → Type 0
Longer gs hs = (id : GroupId) → Begins (audit_at id gs) (audit_at id hs)

longer_fits : (gs hs : List Group) (run : Run) → Longer gs hs → Fits gs run → Fits hs run
longer_fits gs hs run more f =
    let b = more run.id in
    record { forward = f.forward; within = let w : run.upto ≤ length (audit_at run.id gs) = f.within in omega (arith, length-append (audit_at run.id gs) b.rest, ap length b.whole) }

longer_tells : (gs hs : List Group) (run : Run) → Longer gs hs → Fits gs run → entries_of hs run ≡ entries_of gs run
longer_tells gs hs run more f =
    let b = more run.id in
    let xs : List Entry = audit_at run.id gs in
    let low : run.from ≤ run.upto = f.forward in
    let high : run.upto ≤ length xs = f.within in
    let here : run.from ≤ length xs = omega arith in
    ap (λ l. take (run.upto - run.from) (drop run.from l)) (sym b.whole)
    ∙ ap (take (run.upto - run.from)) (drop-append-le run.from xs b.rest here)
    ∙ take-append-le (run.upto - run.from) (drop run.from xs) b.rest (omega (arith, length-drop run.from xs))

longer_all : (gs hs : List Group) (runs : List Run) → Longer gs hs → Each (Fits gs) runs → told_by hs runs ≡ told_by gs runs
longer_all gs hs [] more f = refl
longer_all gs hs (r ∷ rs) more f = λ i. longer_tells gs hs r more f.0 i ++ longer_all gs hs rs more f.1 i

-- ---- one part

acted_longer : (w : World) (p : Part) → Longer w.groups (act w p).groups
acted_longer w p id = go (is_same_group id p.id) refl
  where
    keeps : (g : Group) → (group_step g p.event).group ≡ g.group
    keeps g = step_is g.group p.event g refl

    stepped : (found : Option Group) → Begins (audit_in found) (audit_in (option_map (λ g. group_step g p.event) found))
    stepped None = same_begins [] [] refl
    stepped (Some g) = audit_grows [] (p.event ∷ []) g

    go : (b : Bool) → is_same_group id p.id ≡ b → Begins (audit_at id w.groups) (audit_at id (act w p).groups)
    go true is =
        let there : id ≡ p.id = same_group id p.id is in
        let P : GroupId → Type 0 = λ i. Begins (audit_at i w.groups) (audit_at i (act w p).groups) in
        let Q : Option Group → Type 0 = λ o. Begins (audit_at p.id w.groups) (audit_in o) in
        subst P (sym there) (subst Q (sym (group_at_self p.id (λ g. group_step g p.event) keeps w.groups)) (stepped (group_at p.id w.groups)))
    go false is = same_begins (audit_at id w.groups) (audit_at id (act w p).groups) (sym (ap audit_in (group_at_other p.id id (λ g. group_step g p.event) keeps is w.groups)))

record News (hs : List Group) (runs : List Run) (entries : List Entry) : Type 0 where
  pub fit : Each (Fits hs) runs
  pub tell : told_by hs runs ≡ entries

news_of : (hs : List Group) (id : GroupId) (g : Group) (e : Event) → audit_at id hs ≡ (group_step g e).audit → News hs (run_of id (Some g) e) (decided_in (Some g) e)
news_of hs id g e is = go (nat_lt (length g.audit) (length (group_step g e).audit)) refl
  where
    old : ℕ
    old = length g.audit

    new : List Entry
    new = (group_step g e).audit

    go : (b : Bool) → nat_lt old (length new) ≡ b → News hs (if b then record { id = id; from = old; upto = length new } ∷ [] else []) (drop old new)
    go true more =
        let h : old < length new = ltb-true old (length new) more in
        record {
          fit = (record { forward = omega arith; within = let e : length (audit_at id hs) ≡ length new = ap length is in omega arith }, tt);
          tell = append-nil (take (length new - old) (drop old (audit_at id hs)))
              ∙ ap (λ l. take (length new - old) (drop old l)) is
              ∙ all_of_it old new (omega arith);
        }
    go false none =
        let h : length new ≤ old = not_less in
        record { fit = tt; tell = sym (drop_all old new h) }
      where
        not_less : length new ≤ old
        not_less = not_more (λ k. let t : true ≡ false = sym (lt-ltb old (length new) k) ∙ none in absurd (cc))
          where
            not_more : (old < length new → ⊥) → length new ≤ old
            not_more f = omega (arith, f)

part_news : (w : World) (p : Part) → News (act w p).groups (run_of p.id (group_at p.id w.groups) p.event) (decided_in (group_at p.id w.groups) p.event)
part_news w p = go (group_at p.id w.groups) refl
  where
    keeps : (g : Group) → (group_step g p.event).group ≡ g.group
    keeps g = step_is g.group p.event g refl

    go : (found : Option Group) → group_at p.id w.groups ≡ found → News (act w p).groups (run_of p.id found p.event) (decided_in found p.event)
    go None is = record { fit = tt; tell = refl }
    go (Some g) is = news_of (act w p).groups p.id g p.event
        (ap audit_in (group_at_self p.id (λ g. group_step g p.event) keeps w.groups ∙ ap (option_map (λ g. group_step g p.event)) is))

pub runs_tell : RunsTell
runs_tell = (
  (λ w p runs h.
      let more = acted_longer w p in
      let news = part_news w p in
      record {
        fit = each_join (Fits (act w p).groups) runs (run_of p.id (group_at p.id w.groups) p.event)
            (each_weaker (Fits w.groups) (Fits (act w p).groups) (λ r f. longer_fits w.groups (act w p).groups r more f) runs h.fit) news.fit;
        tell = flat_map-append (entries_of (act w p).groups) runs (run_of p.id (group_at p.id w.groups) p.event)
            ∙ ap (λ l. l ++ told_by (act w p).groups (run_of p.id (group_at p.id w.groups) p.event)) (longer_all w.groups (act w p).groups runs more h.fit ∙ h.tell)
            ∙ ap (λ l. w.audit ++ l) news.tell;
      }),
  (λ w e groups runs audit h.
      let more : Longer groups (groups ++ created_by w.front e) = λ id. same_begins (audit_at id groups) (audit_at id (groups ++ created_by w.front e)) (sym (joined_audits [] id groups (created_by w.front e) (created_new [] w.front e))) in
      record {
        fit = each_weaker (Fits groups) (Fits (groups ++ created_by w.front e)) (λ r f. longer_fits groups (groups ++ created_by w.front e) r more f) runs h.fit;
        tell = longer_all groups (groups ++ created_by w.front e) runs more h.fit ∙ h.tell;
      }),
)

use Rattle.std.proofs.Common.{◌≡◌, ◌∙◌, ◌+◌, ◌-◌, List, length, take, drop, get_or, [], sym, ap, subst, arith}
use Rattle.std.proofs.lemmas.List.{take-append-drop}
use Rattle.std.specs.Arc.{arc_value}
use Rattle.std.specs.FinMap.{get}
use Rattle.std.specs.Option.{option_map}
use Rattle.store_core.specs.Deciding.{name_of, store_of}
use Rattle.entry_core.specs.Log.{Legal}
use Rattle.store_core.specs.declared.decided.ObjectChange.TheVariants.{Became}
use Rattle.store_core.specs.declared.entry.Entry.{Entry}
use Rattle.entry_core.proofs.Drafts.{back_from, put_back}
use Rattle.entry_core.proofs.LegalLogs.{legal_front}
use Rattle.entry_core.proofs.Pushing.{whole_of}
use Rattle.entry_core.proofs.log.Log.last_back.Goals as goal

pub decided_again-requires : goal.decided_again-requires
decided_again-requires c =
    let n = c.len-last.result - 1 in
    let es = c.entries.result.now in
    legal_front [] (take n es) (drop n es) (subst Legal (sym (take-append-drop n es)) (subst Legal (c.self.view_is ∙ sym c.entries.ensures) c.self.invariant.legal))

pub returns : goal.returns
returns c =
    let log = c.args.self.now in
    let n = c.len-last.result - 1 in
    let last = c.index-entries-last in
    let front : List Entry = take n log in
    let one : length log ≡ n + 1 = omega arith in
    let whole = whole_of log n last.result one (last.is ∙ ap (λ l. get_or l n last.result) c.entries-2.ensures) in
    let made = c.earlier.invariant.made ∙ ap store_of (c.earlier.view_is ∙ c.in_ok-earlier.ensures ∙ ap (take n) c.entries.ensures) in
    let object = c.in_ok-object in
    let named = c.name.ensures ∙ ap (λ (e : Entry). name_of e.sealed) (sym last.is) in
    back_from front log last.result (Became object.object) whole
    (put_back front last.result (option_map arc_value object.object) (object.ensures ∙ (λ i. get (made i) (named i))))

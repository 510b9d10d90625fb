use Rattle.std.proofs.Common.{◌≡◌, ◌≢◌, ◌++◌, ◌∷◌, [], ℕ, ◌+◌, ◌-◌, List, length, sym, ◌∙◌, arith, IsUtf8, inr, subst}
use Rattle.cap_grants.specs.declared.grant.Grant.{Grant}
use Rattle.cap_text.specs.Reads.{IsUnreadable}
use Rattle.cap_text.specs.Grammar.{Spells}
use Rattle.cap_text.specs.Machine.{advance, finish}
use Rattle.cap_text.proofs.Reading.{one_utf8, one_shorter, skips_all, skips_some}
use Rattle.cap_text.proofs.Stars.{nil_of, not_nil_of}
use Rattle.cap_text.proofs.Loop.{goes_on, no_list_at, first_at, no_list_unread, first_unread, no_list_past, past_found, no_list_end, first_end, spelled, told_none, told_first}
use Rattle.cap_text.proofs.SpelledGrants.{text_is_spellable}
use Rattle.std.proofs.lemmas.Grind.{common_steps}
use Rattle.cap_text.proofs.parser.parse.Goals as goal

pub from_vec-requires-clause-spellable : goal.from_vec-requires-clause-spellable
from_vec-requires-clause-spellable c =
    let i = c.tokens.invariant.3 in
    let start = c.look-found.result.0.now in
    let none : start ≡ [] = nil_of start c.is_empty.result c.is_empty.ensures c.if-is_empty.true in
    let is : Spells c.args.text.now c.in-Ok.grants = spelled c.args.text.now c.tokens.rest.now c.tokens.behind_word c.tokens.state i.0 i.1 c.in-Ok.grants c.tokens.invariant.2 (skips_all c.tokens.rest.now start c.look-found.ensures.start none) c.in-Ok.ensures in
    rw c.into_vec.ensures (text_is_spellable c.args.text.now is.2.0 c.in-Ok.grants is.2.1 is.2.2)

pub returns-in-Ok-clause-list : goal.returns-in-Ok-clause-list
returns-in-Ok-clause-list c =
    let i = c.tokens.invariant.3 in
    let start = c.look-found.result.0.now in
    let none : start ≡ [] = nil_of start c.is_empty.result c.is_empty.ensures c.if-is_empty.true in
    let P : List Grant → Type 0 = λ gs. Spells c.args.text.now gs in
    let same : c.in-Ok.grants ≡ c.from_vec.result = sym (c.from_vec.ensures ∙ c.into_vec.ensures) in
    subst P same (spelled c.args.text.now c.tokens.rest.now c.tokens.behind_word c.tokens.state i.0 i.1 c.in-Ok.grants c.tokens.invariant.2 (skips_all c.tokens.rest.now start c.look-found.ensures.start none) c.in-Ok.ensures)

pub returns-in-Err-clause-none : goal.returns-in-Err-clause-none
returns-in-Err-clause-none c =
    let i = c.tokens.invariant.3 in
    let start = c.look-found.result.0.now in
    let none : start ≡ [] = nil_of start c.is_empty.result c.is_empty.ensures c.if-is_empty.true in
    rw c.fault-in-Err.ensures (told_none (finish c.tokens.state) c.in-Err.kind _ _ c.in-Err.ensures (λ e. no_list_end c.args.text.now c.tokens.rest.now c.tokens.behind_word c.tokens.state i.0 i.1 c.in-Err.kind (skips_all c.tokens.rest.now start c.look-found.ensures.start none) e))

pub returns-in-Err-clause-first : goal.returns-in-Err-clause-first
returns-in-Err-clause-first c =
    let i = c.tokens.invariant.3 in
    let start = c.look-found.result.0.now in
    let at : ℕ = length c.args.text.now - length start in
    let position : at + length start ≡ length c.args.text.now = omega (arith, c.look-found.ensures.within, c.tokens.invariant.1) in
    let none : start ≡ [] = nil_of start c.is_empty.result c.is_empty.ensures c.if-is_empty.true in
    rw c.fault-in-Err.ensures (told_first (finish c.tokens.state) c.in-Err.kind at c.args.text.now c.tokens.invariant.2 c.in-Err.ensures (λ e. first_end c.args.text.now c.tokens.rest.now c.tokens.behind_word c.tokens.state i.0 i.1 start at c.in-Err.kind c.look-found.ensures.start none position e))

pub returns-then-len-eq-MAX_GRANTS-clause-none : goal.returns-then-len-eq-MAX_GRANTS-clause-none
returns-then-len-eq-MAX_GRANTS-clause-none c =
    let i = c.tokens.invariant.3 in
    let full : length c.tokens.state.done ≡ 64 = sym c.len.ensures ∙ c.if-len-eq-MAX_GRANTS.true in
    rw c.fault-then-len-eq-MAX_GRANTS.ensures (no_list_past c.args.text.now c.tokens.rest.now c.tokens.behind_word c.tokens.state i.0 i.1 full)

pub returns-then-len-eq-MAX_GRANTS-clause-first : goal.returns-then-len-eq-MAX_GRANTS-clause-first
returns-then-len-eq-MAX_GRANTS-clause-first c =
    let i = c.tokens.invariant.3 in
    let start = c.look-found.result.0.now in
    let at : ℕ = length c.args.text.now - length start in
    let position : at + length start ≡ length c.args.text.now = omega (arith, c.look-found.ensures.within, c.tokens.invariant.1) in
    let some : start ≢ [] = not_nil_of start c.is_empty.result c.is_empty.ensures c.if-is_empty.false in
    let full : length c.tokens.state.done ≡ 64 = sym c.len.ensures ∙ c.if-len-eq-MAX_GRANTS.true in
    rw c.fault-then-len-eq-MAX_GRANTS.ensures (inr (c.tokens.invariant.2, past_found c.args.text.now c.tokens.rest.now c.tokens.behind_word c.tokens.state i.0 i.1 c.look-found.result.1 (λ n. n.0) (λ n. n.1.now) c.look-found.ensures.token start at full c.look-found.ensures.start some position))

pub returns-in-Err-advance-clause-none : goal.returns-in-Err-advance-clause-none
returns-in-Err-advance-clause-none c =
    let i = c.tokens.invariant.3 in
    let one = rw c.in-Some.is at c.look-found.ensures.token in
    rw c.fault-in-Err-advance.ensures (told_none (advance c.tokens.state c.in-Some.token) c.in-Err-advance.kind _ _ c.in-Err-advance.ensures (λ e. no_list_at c.args.text.now c.tokens.rest.now c.tokens.behind_word c.tokens.state i.0 i.1 c.in-Some.token c.in-Some.after.now c.in-Err-advance.kind one e))

pub returns-in-Err-advance-clause-first : goal.returns-in-Err-advance-clause-first
returns-in-Err-advance-clause-first c =
    let i = c.tokens.invariant.3 in
    let one = rw c.in-Some.is at c.look-found.ensures.token in
    let start = c.look-found.result.0.now in
    let at : ℕ = length c.args.text.now - length start in
    let position : at + length start ≡ length c.args.text.now = omega (arith, c.look-found.ensures.within, c.tokens.invariant.1) in
    rw c.fault-in-Err-advance.ensures (told_first (advance c.tokens.state c.in-Some.token) c.in-Err-advance.kind at c.args.text.now c.tokens.invariant.2 c.in-Err-advance.ensures (λ e. first_at c.args.text.now c.tokens.rest.now c.tokens.behind_word c.tokens.state i.0 i.1 c.in-Some.token c.in-Some.after.now start at c.in-Err-advance.kind (λ z. c.if-len-eq-MAX_GRANTS.false (c.len.ensures ∙ z)) c.look-found.ensures.start position one e))

pub tokens-preserved : goal.tokens-preserved
tokens-preserved c =
    let i = c.tokens.invariant.3 in
    let one = rw c.in-Some.is at c.look-found.ensures.token in
    let shorter = one_shorter c.tokens.behind_word c.tokens.rest.now c.in-Some.token c.in-Some.after.now one in
    let u : IsUtf8 c.in-Some.after.now = one_utf8 c.tokens.behind_word c.tokens.rest.now c.in-Some.token c.in-Some.after.now one c.tokens.invariant.0 in
    (u, omega (arith, shorter, c.tokens.invariant.1), c.tokens.invariant.2, (i.0 ++ c.in-Some.token ∷ [], rw c.is_word-behind_word.ensures (goes_on c.args.text.now c.tokens.rest.now c.tokens.behind_word c.tokens.state i.0 i.1 c.in-Some.token c.in-Some.after.now c.advance.new.self (λ z. c.if-len-eq-MAX_GRANTS.false (c.len.ensures ∙ z)) one (rw c.in-Ok-advance.is at c.advance.ensures))))

pub returns-in-None-clause-none : goal.returns-in-None-clause-none
returns-in-None-clause-none c =
    let i = c.tokens.invariant.3 in
    let start = c.look-found.result.0.now in
    let some : start ≢ [] = not_nil_of start c.is_empty.result c.is_empty.ensures c.if-is_empty.false in
    let bad : IsUnreadable c.tokens.behind_word c.tokens.rest.now = (skips_some c.tokens.rest.now start c.look-found.ensures.start some, rw c.in-None.is at c.look-found.ensures.token) in
    rw c.fault-in-None.ensures (no_list_unread c.args.text.now c.tokens.rest.now c.tokens.behind_word c.tokens.state i.0 i.1 bad)

pub returns-in-None-clause-first : goal.returns-in-None-clause-first
returns-in-None-clause-first c =
    let i = c.tokens.invariant.3 in
    let start = c.look-found.result.0.now in
    let at : ℕ = length c.args.text.now - length start in
    let position : at + length start ≡ length c.args.text.now = omega (arith, c.look-found.ensures.within, c.tokens.invariant.1) in
    let some : start ≢ [] = not_nil_of start c.is_empty.result c.is_empty.ensures c.if-is_empty.false in
    let bad : IsUnreadable c.tokens.behind_word c.tokens.rest.now = (skips_some c.tokens.rest.now start c.look-found.ensures.start some, rw c.in-None.is at c.look-found.ensures.token) in
    rw c.fault-in-None.ensures (inr (c.tokens.invariant.2, first_unread c.args.text.now c.tokens.rest.now c.tokens.behind_word c.tokens.state i.0 i.1 start at (λ z. c.if-len-eq-MAX_GRANTS.false (c.len.ensures ∙ z)) c.look-found.ensures.start position bad))

pub tokens-smaller : goal.tokens-smaller
tokens-smaller c =
    let one = rw c.in-Some.is at c.look-found.ensures.token in
    let shorter = one_shorter c.tokens.behind_word c.tokens.rest.now c.in-Some.token c.in-Some.after.now one in
    omega (arith, shorter)

pub from_vec-requires-clause-few : goal.from_vec-requires-clause-few
from_vec-requires-clause-few c = grind (arith, common_steps)

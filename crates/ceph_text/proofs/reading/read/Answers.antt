use Rattle.std.proofs.Common.{◌≡◌, ◌++◌, ◌∷◌, [], ℕ, List, length, eqb, None, Some, true, sym, ap, subst, ◌∙◌, arith, rules}
use Rattle.std.proofs.lemmas.List.{length-append}
use Rattle.ceph_text.specs.declared.grant.CephGrant.{CephGrant}
use Rattle.ceph_text.specs.Grammar.{first_grant}
use Rattle.ceph_text.specs.Pieces.{ceph_of}
use Rattle.ceph_text.specs.Texts.{Begins, reader_behind, IsNoCephText}
use Rattle.ceph_text.proofs.Lists.{begins_more, reader_is, too_many, not_spaces, no_grants, stops_at}
use Rattle.ceph_text.proofs.reading.read.Goals.{else-is_empty-via-then-is_empty+else-not-is_empty, else-is_empty-via-else-is_empty}
use Rattle.ceph_text.proofs.reading.read.Goals as goal

pub returns-then-len-eq-MAX_GRANTS-clause-fault : goal.returns-then-len-eq-MAX_GRANTS-clause-fault
returns-then-len-eq-MAX_GRANTS-clause-fault c =
    let gs = c.loop-piece.grants.items in
    let rest = c.loop-piece.rest.now in
    let len : c.loop-piece.grants.len ≡ length gs = omega (arith, c.loop-piece.grants.ok.0) in
    let count : eqb c.loop-piece.grants.len 0 ≡ eqb (length gs) 0 = ap (λ (n : ℕ). eqb n 0) len in
    let found : reader_behind first_grant gs rest ≡ Some (ceph_of c.in-Some.piece, c.in-Some.after.now) = sym (reader_is gs c.is_empty.result rest (c.is_empty.ensures ∙ count)) ∙ c.in-Some.ensures in
    (omega arith, too_many c.args.text.now gs rest (ceph_of c.in-Some.piece) c.in-Some.after.now c.loop-piece.invariant.1 found (omega arith))

pub loop-piece-preserved : goal.loop-piece-preserved
loop-piece-preserved c =
    let gs = c.loop-piece.grants.items in
    let rest = c.loop-piece.rest.now in
    let len : c.loop-piece.grants.len ≡ length gs = omega (arith, c.loop-piece.grants.ok.0) in
    let count : eqb c.loop-piece.grants.len 0 ≡ eqb (length gs) 0 = ap (λ (n : ℕ). eqb n 0) len in
    let g = ceph_of c.in-Some.piece in
    let found : reader_behind first_grant gs rest ≡ Some (g, c.in-Some.after.now) = sym (reader_is gs c.is_empty.result rest (c.is_empty.ensures ∙ count)) ∙ c.in-Some.ensures in
    let items : c.push.new.self.items ≡ gs ++ g ∷ [] = c.in_ok-push-in-Some.ensures.items ∙ ap (λ (x : CephGrant). gs ++ x ∷ []) c.in_ok-owned-in-Some.ensures in
    let P : List CephGrant → Type 0 = λ x. Begins first_grant c.args.text.now x c.in-Some.after.now in
    (search rules, subst P (sym items) (begins_more first_grant c.args.text.now gs rest g c.in-Some.after.now c.loop-piece.invariant.1 found), omega (arith, ap length items, length-append gs (g ∷ [])))

pub returns-in-None-clause-fault : goal.returns-in-None-clause-fault
returns-in-None-clause-fault c =
    let text = c.args.text.now in
    let gs = c.loop-piece.grants.items in
    let rest = c.loop-piece.rest.now in
    let len : c.loop-piece.grants.len ≡ length gs = omega (arith, c.loop-piece.grants.ok.0) in
    let count : eqb c.loop-piece.grants.len 0 ≡ eqb (length gs) 0 = ap (λ (n : ℕ). eqb n 0) len in
    let read = c.loop-piece.invariant.1 in
    let none : reader_behind first_grant gs rest ≡ None = sym (reader_is gs c.is_empty.result rest (c.is_empty.ensures ∙ count)) ∙ c.in-None.ensures in
    let no : IsNoCephText text = elim c.else-is_empty.branch [
      | else-is_empty-via-then-is_empty+else-not-is_empty w ↦ no_grants text gs rest w.is_empty-then-is_empty.result read none (w.is_empty-then-is_empty.ensures ∙ count) (search rules)
      | else-is_empty-via-else-is_empty w ↦ not_spaces text gs rest c.spaces-behind.result.now c.is_empty-in-None.result read none c.spaces-behind.ensures c.is_empty-in-None.ensures w.if-is_empty.false
    ] in
    (omega arith, stops_at text gs rest c.spaces-behind.result.now c.saturating_sub-at.result read none c.spaces-behind.ensures (omega arith), no)

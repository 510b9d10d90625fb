use Rattle.std.proofs.Common.{◌≡◌, ℕ, List, ◌+◌, ◌++◌, get_or, take, drop, ap, ◌∙◌, arith}
use Rattle.std.proofs.lemmas.Bool.{eqb-true}
use Rattle.log_core.proofs.Buffers.{one_line, one_line_from, takes_none, takes_some, whole_drop}
use Rattle.log_core.proofs.buffer.LineBuffer.take_lines.Goals as goal

pub returns-in_default : goal.returns-in_default
returns-in_default c =
    takes_none c.args.self.now c.args.chunk.now c.new.result.items c.extend_from_slice.new.self.items c.new.ensures.items
    (c.in_ok-extend_from_slice.ensures.items ∙ ap (λ (w : List ℕ). w ++ c.args.chunk.now) c.self.view_is)
    (one_line c.args.chunk.now (λ k within h. c.in_default.ensures k (omega arith) within h))

pub returns : goal.returns
returns c =
    let rest : c.replace-lines.new.dest.items ≡ drop (c.in-Some.end + 1) c.args.chunk.now =
    ap (λ v. v.items) c.replace-lines.ensures.after ∙ (c.in_ok-left.ensures.items ∙ whole_drop (c.in-Some.end + 1) c.args.chunk.now) in
    let lines : c.extend_from_slice-2.new.self.items ≡ c.args.self.now ++ take (c.in-Some.end + 1) c.args.chunk.now =
    c.in_ok-extend_from_slice-2.ensures.items ∙ ap (λ (w : List ℕ). w ++ take (c.in-Some.end + 1) c.args.chunk.now) (ap (λ v. v.items) c.replace-lines.ensures.value ∙ c.self.view_is) in
    takes_some c.args.self.now c.args.chunk.now c.extend_from_slice-2.new.self.items c.replace-lines.new.dest.items c.in-Some.end
    c.in-Some.ensures.0.high (eqb-true (get_or c.args.chunk.now c.in-Some.end 0) 10 c.in-Some.ensures.1) lines rest
    (one_line_from c.args.chunk.now (c.in-Some.end + 1) c.in-Some.ensures.0.after)

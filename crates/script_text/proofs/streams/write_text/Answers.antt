use Rattle.std.proofs.Common.{◌+◌, ◌++◌, take, drop, sym, ap, subst, ◌∙◌, arith, length-drop, take-append-drop}
use Rattle.std.proofs.Math.Seq.{take-add}
use Rattle.std.proofs.lemmas.List.{take_rest}
use Rattle.std.specs.Io.KnownBytes.{Appends}
use Rattle.script_text.proofs.Known.{appends_more, appends_kept}
use Rattle.std.proofs.lemmas.Grind.{common_steps}
use Rattle.script_text.proofs.streams.write_text.Goals as goal

pub loop-written-preserved : goal.loop-written-preserved
loop-written-preserved g c =
    let done = c.loop-written.written in
    let n = c.in-Ok.n in
    let xs = c.as_bytes-bytes.result.now in
    let joined = ap (λ l. take done xs ++ take n l) (take_rest xs done) ∙ sym (take-add done n xs) in
    record {
      within = omega (arith, length-drop done xs, c.in-Ok.ensures.bound);
      wrote = subst (Appends _ _) joined (appends_more _ _ _ _ _ c.loop-written.invariant.wrote c.in-Ok.ensures.bytes);
    }

pub returns-in-Ok-eq0-clause-part : goal.returns-in-Ok-eq0-clause-part
returns-in-Ok-eq0-clause-part g c =
    let done = c.loop-written.written in
    let n = c.in-Ok-eq0.field-0 in
    let xs = c.as_bytes-bytes.result.now in
    let joined = ap (λ l. take done xs ++ take n l) (take_rest xs done) ∙ sym (take-add done n xs) in
    (take (done + n) xs, (drop (done + n) xs, take-append-drop (done + n) xs ∙ c.as_bytes-bytes.ensures.value), subst (Appends _ _) joined (appends_more _ _ _ _ _ c.loop-written.invariant.wrote c.in-Ok-eq0.ensures.bytes))

pub returns-in-Err-clause-part : goal.returns-in-Err-clause-part
returns-in-Err-clause-part g c =
    let done = c.loop-written.written in
    let xs = c.as_bytes-bytes.result.now in
    (take done xs, (drop done xs, take-append-drop done xs ∙ c.as_bytes-bytes.ensures.value), appends_kept _ _ _ _ c.loop-written.invariant.wrote c.in-Err.ensures.bytes)

pub returns-clause-whole : goal.returns-clause-whole
returns-clause-whole g c = grind (arith, common_steps)

pub returns-clause-part : goal.returns-clause-part
returns-clause-part g c = grind (arith, common_steps)

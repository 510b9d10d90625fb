use Rattle.std.proofs.Common.{rules, sym, ap, ◌∙◌, ◌++◌, string_bytes}
use Rattle.std.specs.List.{flat_map}
use Rattle.caps_lines.specs.Shell.{marked}
use Rattle.caps_lines.proofs.Quotes.{found_quote, no_quote_left, quote_written, rest_written}
use Rattle.caps_lines.proofs.words.push_marked.Goals as goal

pub loop-front-preserved : goal.loop-front-preserved
loop-front-preserved c = (
  search rules,
  quote_written (string_bytes c.loop-front.line) _ _ _ c.in-Some.front.now _ _ _ c.in_ok-push_str.ensures.bytes c.in_ok-push_str-2.ensures.bytes
      (found_quote c.split_once.result c.loop-front.rest.now (c.in-Some.front, c.in-Some.behind) c.split_once.ensures.cases c.in-Some.is)
      c.loop-front.invariant.1,
)

pub returns : goal.returns
returns c =
    rest_written c.push_str-2.result (string_bytes c.push_str-2.new.self) (string_bytes c.loop-front.line) c.loop-front.rest.now (string_bytes c.args.line.now ++ flat_map marked c.args.text.now) c.push_str-2.ensures.bytes
    (ap (λ t. string_bytes c.loop-front.line ++ t) (sym (no_quote_left c.split_once.result c.loop-front.rest.now c.split_once.ensures.cases c.in_default.is)) ∙ c.loop-front.invariant.1)

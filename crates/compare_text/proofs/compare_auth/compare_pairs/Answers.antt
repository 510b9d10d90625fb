use Rattle.std.proofs.Common.{string_bytes}
use Rattle.compare_text.proofs.compare_auth.compare_pairs.Goals as goal

pub returns : goal.returns
returns c = record {
  told = string_bytes c.in_ok-told.told.text;
  each = c.in_ok-told.ensures;
  printed = c.in_ok-entities_by.ensures;
}

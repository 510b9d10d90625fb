use Rattle.std.proofs.Common.{List, length, ◌≤◌}
use denote.Text.{Utf8}
use denote.Shadow.{shadow}
use Rattle.cap_text.specs.declared.token.Token.{Token}
use Rattle.cap_text.proofs.Loop.{HasRead}
use Rattle.cap_text.proofs.parser.parse.Given as goal

abbrev pub invariant-tokens : goal.invariant-tokens
invariant-tokens l = shadow (Utf8 l.rest) × (length l.rest ≤ length l.text) × (length l.text ≤ 4096) × ((p : List Token) × HasRead l.text l.rest l.behind_word l.state p)

abbrev pub decreases-tokens : goal.decreases-tokens
decreases-tokens l = length l.rest

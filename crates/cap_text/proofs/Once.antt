-- A text spells at most one list.
use Rattle.std.proofs.Common.{◌≡◌, List, Result, Ok, sym, subst, ◌∙◌}
use Rattle.cap_text.specs.declared.token.Token.{Token}
use Rattle.cap_grants.specs.declared.grant.Grant.{Grant}
use Rattle.cap_grants.specs.declared.fault_kind.FaultKind.{FaultKind}
use Rattle.cap_text.specs.Grammar.{GrantPhrase, Grants, AtMostOneList}
use Rattle.cap_text.proofs.Reading.{text_unique}
use Rattle.cap_text.proofs.Forth.{complete}

abbrev all_of : List Grant → Result (List Grant) FaultKind
all_of gs = Ok gs

same_list : (a b : List Grant) → all_of a ≡ all_of b → a ≡ b
same_list a b e = cc

tokens_once : (ts : List Token) (a b : List Grant) → Grants GrantPhrase ts a → Grants GrantPhrase ts b → a ≡ b
tokens_once ts a b h k = same_list a b (sym (complete ts a h) ∙ complete ts b k)

pub at_most_one : AtMostOneList
at_most_one text a b (s, f, (ts, (end, spaces, r), h)) (s', f', (us, u, k)) =
    let same = text_unique text ts end us r spaces u in
    let P : List Token → Type 0 = λ x. Grants GrantPhrase x b in
    tokens_once ts a b h (subst P same k)

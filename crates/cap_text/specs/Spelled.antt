-- Statement: contracts of public calls use it.
-- The laws of what the grammar can spell. The limits on a text's bytes and on the number of its grants are left aside.
use Rattle.std.specs.Prelude.{◌≡◌, true, List}
use Rattle.std.specs.List.{list_all}
use Rattle.cap_grants.specs.declared.grant.Grant.{Grant}
use Rattle.cap_grants.specs.Spellable.{is_spellable}
use Rattle.cap_text.specs.Grammar.{CanBeSpelled}

-- Whatever a text spells passes the test.
abbrev pub SpelledIsSpellable : Type 0
SpelledIsSpellable = (gs : List Grant) → CanBeSpelled gs → list_all is_spellable gs ≡ true

-- Some text spells whatever passes the test.
abbrev pub SpellableIsSpelled : Type 0
SpellableIsSpelled = (gs : List Grant) → list_all is_spellable gs ≡ true → CanBeSpelled gs

-- Statement: contracts of public calls use it.
-- Text inside a page. Source: HTML Living Standard, "The HTML syntax", of text and of attribute values in double quotes.
use Rattle.std.specs.Prelude.{ℕ, List, ◌==◌, ◌&&◌, Bool, not, codes, flat_map, if◌then◌else◌}
use Rattle.verdict_text.specs.Caret.{shown_byte}

-- & < > " and ' are character references, bytes 32 to 126 stand as they are, and any other byte is shown by its number
abbrev pub escaped : ℕ → List ℕ
escaped byte =
    if byte == 38 then codes "&amp;"
    else (if byte == 60 then codes "&lt;"
    else (if byte == 62 then codes "&gt;"
    else (if byte == 34 then codes "&quot;"
    else (if byte == 39 then codes "&#39;" else shown_byte byte))))

abbrev pub escaped_text : List ℕ → List ℕ
escaped_text text = flat_map escaped text

-- neither < nor > nor " nor ': such a byte begins or ends no tag and no attribute
abbrev pub is_inert : ℕ → Bool
is_inert byte = not (byte == 60) && (not (byte == 62) && (not (byte == 34) && not (byte == 39)))

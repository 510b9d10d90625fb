-- Statement: contracts of public calls use it.
-- How much is printed.
use Rattle.std.specs.Prelude.{Bool, true, false}
use Rattle.share_text.specs.declared.detail.Detail.{Detail}
use Rattle.share_text.specs.declared.detail.Detail.TheVariants.{Brief, Whole}

abbrev pub is_brief : Detail → Bool
is_brief Brief = true
is_brief Whole = false

-- Scripts, worked through.
use Rattle.std.proofs.Common.{◌≡◌, refl, ◌∙◌, sym, subst}
use Rattle.std.specs.Fmt.{digits}
use Rattle.map_core.specs.Map.{pool_in, view_at}
use Rattle.map_core.specs.Intervals.{size_in, set_of}
use Rattle.map_core.specs.Refusal.{is_word, tags_in, pairs_in, has_app, has_key, in_limits, refusal, groups_in}
use Rattle.place_core.specs.Placement.{rank_of, is_before, acting_of, numbers_of}
use Rattle.cap_text.specs.Machine.{step}
use Rattle.cap_text.specs.ReadText.{read_text}
use Rattle.world_front.specs.ControlPlane.{requests_of, requests_in}
use Rattle.script_laws.specs.Worked.{script, printed, WorkedScript, WorkedLongerScript, WorldsCount, longer_script, longer_printed, in_list}
use Rattle.world_script.specs.Script.{Output, Whole, BadAt}
use Rattle.script_laws.specs.Plain.{output_in, plain_output, IsPlain}
use Rattle.script_laws.proofs.PlainKeepings.{keepings_agree}
use Rattle.script_laws.proofs.PlainScripts.{plain_scripts_print}

computed : output_in in_list script ≡ record { text = printed; ending = Whole }
unfolding digits pool_in view_at size_in set_of is_word tags_in pairs_in has_app has_key in_limits refusal groups_in rank_of is_before acting_of numbers_of step requests_of requests_in read_text
computed = refl

pub worked_script : WorkedScript
unfolding WorkedScript
worked_script =
    let P : Output → Type 0 = λ o. IsPlain o.ending in
    let is : plain_output script ≡ record { text = printed; ending = Whole } = keepings_agree script ∙ computed in
    plain_scripts_print script (subst P (sym is) tt) ∙ is

computed_longer : output_in in_list longer_script ≡ record { text = longer_printed; ending = BadAt 48 }
unfolding digits pool_in view_at size_in set_of is_word tags_in pairs_in has_app has_key in_limits refusal groups_in rank_of is_before acting_of numbers_of step requests_of requests_in read_text
computed_longer = refl

pub worked_longer_script : WorkedLongerScript
unfolding WorkedLongerScript
worked_longer_script =
    let P : Output → Type 0 = λ o. IsPlain o.ending in
    let is : plain_output longer_script ≡ record { text = longer_printed; ending = BadAt 48 } = keepings_agree longer_script ∙ computed_longer in
    plain_scripts_print longer_script (subst P (sym is) tt) ∙ is

pub worlds_count : WorldsCount
unfolding WorldsCount digits pool_in view_at size_in set_of is_word tags_in pairs_in has_app has_key in_limits refusal groups_in rank_of is_before acting_of numbers_of step requests_of requests_in read_text
worlds_count = (refl, refl)

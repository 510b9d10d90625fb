use Rattle.std.proofs.Common.{Some, None}
use Rattle.std.specs.Arc.{arc_value}
use Rattle.std.specs.Option.{option_map}
use Rattle.store_core.proofs.Stores.{put_again}
use Rattle.store_core.proofs.objects.Objects.change.Goals as goal

pub returns-in_ok-before-in-Became-Some-clause-back : goal.returns-in_ok-before-in-Became-Some-clause-back
returns-in_ok-before-in-Became-Some-clause-back c =
    let put = c.in_ok-before-in-Became-Some in
    put_again c.args.self.now c.put.new.self c.args.name.now (Some (arc_value c.in-Became-Some.object)) (option_map arc_value put.before) put.ensures.ok put.ensures.before

pub returns-in-Became-None-clause-back : goal.returns-in-Became-None-clause-back
returns-in-Became-None-clause-back c =
    put_again c.args.self.now c.take_out.new.self c.args.name.now None (option_map arc_value c.take_out.result) c.take_out.ensures.out c.take_out.ensures.before

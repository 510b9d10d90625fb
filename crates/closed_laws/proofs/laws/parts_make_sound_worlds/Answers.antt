use Rattle.closed_laws.proofs.laws.parts_make_sound_worlds.Goals as goal

pub returns : goal.returns
returns c p fit = fit.sound

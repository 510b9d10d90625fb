use Rattle.group_model_whole.proofs.Histories.{decided_begins_chosen}
use Rattle.group_model_whole.proofs.laws.decided_entries_stay.Goals as goal

pub returns : goal.returns
returns c = record { stay = λ promise min_size sets h j n k log sound d before is. decided_begins_chosen promise min_size sets h sound j n k log d before is }

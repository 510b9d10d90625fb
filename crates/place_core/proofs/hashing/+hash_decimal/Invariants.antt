use Rattle.place_core.proofs.hashing.+hash_decimal.Given as goal

abbrev pub decreases-hash_decimal : goal.decreases-hash_decimal
decreases-hash_decimal l = l.number

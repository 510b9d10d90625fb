-- Refinement: only contracts inside the crate use it.
-- What an id is hashed to. No promise hangs on it: tables find the same entries whatever the hash is.
use Rattle.std.specs.Prelude.{ℕ, ◌+◌, ◌*◌, ◌%◌, ◌^◌, ◌==◌, List, length, if◌then◌else◌, slice_index, bit_and, bit_or}
use Rattle.store_core.specs.declared.id_hasher.IdHasher.{IdHasher}

-- the four bytes from a place on, the lowest first
abbrev pub read_u32 : List ℕ → ℕ → ℕ
read_u32 bytes at = slice_index bytes at + slice_index bytes (at + 1) * 256 + slice_index bytes (at + 2) * 65536 + slice_index bytes (at + 3) * 16777216

-- the number, moved by the session, and the top bits of its product
abbrev pub hash_of : ℕ → ℕ → ℕ
hash_of session number =
    let moved = (number + session * 0x9E37_79B1 % 2 ^ 32) % 2 ^ 32 in
    bit_or (bit_and moved 0x00FF_FFFF) (bit_and (moved * 0x85EB_CA6B % 2 ^ 32) 0xFF00_0000)

-- eight bytes are an id; what else is written is left out
abbrev pub write : IdHasher → List ℕ → IdHasher
write h bytes = if length bytes == 8 then record { hash = hash_of (read_u32 bytes 4) (read_u32 bytes 0) } else h

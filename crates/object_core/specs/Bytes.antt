-- Statement: contracts of public calls use it.
-- Parts and changes of contents, as RADOS reads and writes them. Source: Ceph's object operations read,
-- write, append and truncate.
use Rattle.std.specs.Prelude.{ℕ, ◌+◌, ◌-◌, List, ◌++◌, if◌then◌else◌, ◌==◌, length, take, drop, replicate}

-- the bytes from `offset` on, at most `count`; all of them where `count` is 0
abbrev pub part_of : List ℕ → ℕ → ℕ → List ℕ
part_of bytes offset count = if count == 0 then drop offset bytes else take count (drop offset bytes)

-- cut to `size` bytes, or extended to `size` by zero bytes
abbrev pub resized : ℕ → List ℕ → List ℕ
resized size bytes = take size bytes ++ replicate (size - length bytes) 0

-- more bytes laid over the old ones from a place on; a gap before them is filled by zero bytes
abbrev pub overwritten : List ℕ → ℕ → List ℕ → List ℕ
overwritten bytes offset more = resized offset bytes ++ more ++ drop (offset + length more) bytes

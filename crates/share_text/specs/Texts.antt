-- Statement: contracts of public calls use it.
-- What is printed of what two capability texts share (this project's profile). Every line ends with byte 10.
use Rattle.std.specs.Prelude.{ℕ, ◌≡◌, ◌↔◌, ◌&&◌, ◌||◌, ◌==◌, not, List, [], ◌++◌, Bool, None, Result, Ok, Err, codes, length, if◌then◌else◌}
use Rattle.std.specs.List.{All, flat_map}
use Rattle.grant_core.specs.Flat.{Flat}
use Rattle.grant_core.specs.Text.{printed_path}
use Rattle.rights_core.specs.Rights.{NetworkGrant, live_grants}
use Rattle.share_core.specs.Sharing.{Answers, pairs}
use Rattle.share_core.specs.declared.reaching.Shared.{Shared}
use Rattle.verdict_text.specs.Reading.{IsReading, Reading}
use Rattle.verdict_text.specs.declared.reading.Rules.TheVariants.{Project}
use Rattle.compare_text.specs.Compared.{IsSideRefused}
use Rattle.compare_text.specs.Request.{target_words}
use Rattle.verdict_text.specs.declared.format.Format.TheVariants.{Text}
use Rattle.share_text.specs.Kinds.{IsSharedSo, ShareSo, kind_words, one_touch, other_touch}
use Rattle.share_text.specs.declared.kind.Kind.{Kind}
use Rattle.share_text.specs.declared.kind.Kind.TheVariants.{WritesWrites, WritesReads, ReadsWrites, ReadsReads}
use Rattle.share_text.specs.declared.texts.Examples.{Examples}

-- the paths of both grants, with a blank behind each
abbrev pub paths_words : Shared → List ℕ
paths_words shared = printed_path shared.path ++ (codes " " ++ (printed_path shared.other_path ++ codes " "))

-- the kind, the paths of both grants, and a target that `osdgate verdict` takes
abbrev pub shared_line : Kind → Shared → List ℕ
shared_line kind shared = kind_words kind ++ (codes " " ++ (paths_words shared ++ (target_words shared.target ++ codes "\n")))

-- an example for each pair of grants that by themselves share so, each shared by the whole texts too; none exactly where they
-- share nothing so
pub record AreExamples (kind : Kind) (ones others : Flat) (examples : List Shared) : Type 0 where
  pub answers : Answers (one_touch kind) (other_touch kind) (pairs ones others) examples
  pub shared : All (λ example. IsSharedSo kind ones others example.target) examples
  pub empty : (examples ≡ []) ↔ (¬ ShareSo kind ones others)

-- of each kind
pub record AreAllExamples (ones others : Flat) (all : Examples) : Type 0 where
  pub writes_writes : AreExamples WritesWrites ones others all.writes_writes.items
  pub writes_reads : AreExamples WritesReads ones others all.writes_reads.items
  pub reads_writes : AreExamples ReadsWrites ones others all.reads_writes.items
  pub reads_reads : AreExamples ReadsReads ones others all.reads_reads.items

-- a line for each example, kind by kind
abbrev pub shared_lines : Examples → List ℕ
shared_lines all =
    flat_map (shared_line WritesWrites) all.writes_writes.items
    ++ (flat_map (shared_line WritesReads) all.writes_reads.items
    ++ (flat_map (shared_line ReadsWrites) all.reads_writes.items ++ flat_map (shared_line ReadsReads) all.reads_reads.items))

-- nothing is shared
abbrev pub or_apart : List ℕ → List ℕ
or_apart lines = if length lines == 0 then codes "apart\n" else lines

abbrev pub is_any : List Shared → Bool
is_any examples = not (length examples == 0)

-- one of them writes what the other reads or writes
abbrev pub is_any_written : Examples → Bool
is_any_written all = is_any all.writes_writes.items || is_any all.writes_reads.items || is_any all.reads_writes.items

-- what is printed of two lists of grants; it fails where a check was asked for and one writes what the other reads or writes
pub record AreToldApart (check : Bool) (ones others : Flat) (text : List ℕ) (fails : Bool) : Type 0 where
  pub all : Examples
  pub are : AreAllExamples ones others all
  pub printed : text ≡ or_apart (shared_lines all)
  pub ends : fails ≡ (check && is_any_written all)

-- what is printed of two lists of grants with networks: that of the grants that some address has
abbrev pub AreRightsTold : Bool → List NetworkGrant → List NetworkGrant → List ℕ → Bool → Type 0
AreRightsTold check ones others text fails = AreToldApart check (live_grants ones) (live_grants others) text fails

-- a second text that was read, beside the first one's grants
abbrev pub IsSecondTold : Bool → List NetworkGrant → Reading → List ℕ → Bool → Type 0
IsSecondTold check ones (Ok rights) text fails = AreRightsTold check ones rights.grants text fails
IsSecondTold check ones (Err fault) text fails = IsSideRefused Text (codes "second") fault text fails

-- two texts that were read, of which the first one's fault comes first
abbrev pub AreShared : Bool → Reading → Reading → List ℕ → Bool → Type 0
AreShared check (Ok rights) second text fails = IsSecondTold check rights.grants second text fails
AreShared check (Err fault) second text fails = IsSideRefused Text (codes "first") fault text fails

-- what is printed of two texts by this project's rules, and whether the command fails
abbrev pub IsShareAnswer : Bool → List ℕ → List ℕ → List ℕ → Bool → Type 0
IsShareAnswer check first second text fails =
    (ones others : Reading) × IsReading Project first None ones × IsReading Project second None others × AreShared check ones others text fails

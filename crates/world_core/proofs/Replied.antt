-- Each answer is what one store gives at its place.
use Rattle.std.proofs.Common.{◌≡◌, ◌∙◌, ℕ, ◌==◌, List, [], ◌∷◌, Bool, true, false, if◌then◌else◌, Some, sym, ap, subst, refl}
use Rattle.entry_core.specs.Log.{decide, find}
use Rattle.entry_core.specs.Laws.{is_denied, StandsIn}
use Rattle.store_core.specs.declared.entry.Entry.{Entry}
use Rattle.entry_core.proofs.Lawful.{verdict_is_sealed}
use Rattle.entry_core.proofs.FoundEntries.{find_tells}
use Rattle.group_model_whole.specs.Each.{Each}
use Rattle.group_model.specs.Group.{submitted}
use Rattle.group_model_whole.specs.Asked.{IsAsked}
use Rattle.world_core.specs.World.{World, world_after}
use Rattle.group_model.specs.Types.{EntryReply}
use Rattle.world_core.specs.Answers.{answer_at, IsAnswered, AnswersAreDecided}
use Rattle.world_core.proofs.Worlds.{WorldStands, world_stands, world_legal, world_replied}

-- what holds of each entry holds of one that is found
found_one : (P : Entry → Type 0) (es : List Entry) (id : ℕ) (e : Entry) → Each P es → find es id ≡ Some e → P e
found_one P [] id e all is = absurd (cc)
found_one P (x ∷ xs) id e all is = go (x.sealed.id == id) is (λ more. found_one P xs id e all.1 more)
  where
    go : (b : Bool) → (if b then Some x else find xs id) ≡ Some e → (find xs id ≡ Some e → P e) → P e
    go true one rest = let same : x ≡ e = cc in subst P same all.0
    go false more rest = rest more

pub world_answered : (w : World) (id : ℕ) (reply : EntryReply) → WorldStands w → answer_at w id ≡ Some reply → IsAnswered w id reply
world_answered w id reply h is =
    let r = world_replied w h id reply is in
    let f : StandsIn w.audit id r.entry = find_tells w.audit id r.entry (world_legal w h) r.found in
    let asked : IsAsked w.front.submissions r.entry.sealed = found_one (λ x. IsAsked w.front.submissions x.sealed) w.audit id r.entry h.asked r.found in
    let kept : r.entry.reply ≡ (decide f.before r.entry.sealed).reply = ap (λ e. e.reply) f.decided in
    record {
      request = r.entry.sealed;
      submitted_one = ap (submitted w.front.submissions) (sym f.number) ∙ asked;
      decided = record {
        before = f.before;
        entry = r.entry;
        after = f.behind;
        whole = f.whole;
        asks = refl;
        is = r.is;
        decided = sym r.is ∙ kept;
        denied = ap is_denied (sym r.is ∙ kept) ∙ (verdict_is_sealed f.before r.entry.sealed).0;
      };
    }

pub answers_are_decided : AnswersAreDecided
answers_are_decided table daemons events id reply room is = world_answered (world_after table daemons events) id reply (world_stands table daemons events room) is

-- What is remembered of one line more.
use Rattle.std.proofs.Common.{◌≡◌, ℕ, List, ◌∷◌, cond, Option, None, Some, ap, ◌∙◌}
use Rattle.std.specs.Str.{bytes_eq}
use Rattle.std.specs.HashMap.{get_by_text}
use Rattle.log_core.specs.declared.line.Line.{Line}
use Rattle.log_core.specs.declared.line.Line.TheVariants.{Session, Operation, Decision, Cut}
use Rattle.log_core.specs.declared.pairing.Pair.{Pair}
use Rattle.log_core.specs.declared.pairing.Pairing.{Pairing}
use Rattle.log_core.specs.Log.{Remembers, entity_of, object_of, pair_of}

pub after_session : (before : List Line) (old new : Pairing) (session entity : List ℕ)
    → ((q : List ℕ) → get_by_text new.entities q ≡ cond (bytes_eq session q) (Some entity) (get_by_text old.entities q)) → ((q : List ℕ) → get_by_text new.objects q ≡ get_by_text old.objects q)
    → Remembers before old → Remembers (Session session entity ∷ before) new
after_session before old new session entity put same r = record {
  entities = λ q. put q ∙ ap (λ (o : Option (List ℕ)). cond (bytes_eq session q) (Some entity) o) (r.entities q);
  objects = λ q. same q ∙ r.objects q;
}

pub after_operation : (before : List Line) (old new : Pairing) (thread object : List ℕ)
    → ((q : List ℕ) → get_by_text new.objects q ≡ cond (bytes_eq thread q) (Some object) (get_by_text old.objects q)) → ((q : List ℕ) → get_by_text new.entities q ≡ get_by_text old.entities q)
    → Remembers before old → Remembers (Operation thread object ∷ before) new
after_operation before old new thread object put same r = record {
  entities = λ q. same q ∙ r.entities q;
  objects = λ q. put q ∙ ap (λ (o : Option (List ℕ)). cond (bytes_eq thread q) (Some object) o) (r.objects q);
}

pub after_decision : (before : List Line) (old new : Pairing) (thread session time text : List ℕ)
    → ((q : List ℕ) → get_by_text new.objects q ≡ cond (bytes_eq thread q) None (get_by_text old.objects q)) → ((q : List ℕ) → get_by_text new.entities q ≡ get_by_text old.entities q)
    → Remembers before old → Remembers (Decision thread session time text ∷ before) new
after_decision before old new thread session time text taken same r = record {
  entities = λ q. same q ∙ r.entities q;
  objects = λ q. taken q ∙ ap (λ (o : Option (List ℕ)). cond (bytes_eq thread q) None o) (r.objects q);
}

pub paired : (before : List Line) (old : Pairing) (thread session time text : List ℕ) (entity object : Option (List ℕ)) → entity ≡ get_by_text old.entities session → object ≡ get_by_text old.objects thread → Remembers before old
    → Some (let pair : Pair = record { entity = entity; object = object } in pair) ≡ pair_of before (Decision thread session time text)
paired before old thread session time text entity object e o r =
    let entity_is : entity ≡ entity_of before session = e ∙ r.entities session in
    let object_is : object ≡ object_of before thread = o ∙ r.objects thread in
    λ i. Some (record { entity = entity_is i; object = object_is i })

pub after_cut : (before : List Line) (pairing : Pairing) → Remembers before pairing → Remembers (Cut ∷ before) pairing
after_cut before pairing r = record { entities = r.entities; objects = r.objects }

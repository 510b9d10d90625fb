-- How an active copy takes what waits.
use Rattle.std.proofs.Common.{ℕ, suc, ◌≡◌, ◌<◌, ◌+◌, ◌==◌, true, not, List, [], ◌∷◌, ◌++◌, length, drop, get_or, map, refl, sym, ◌∙◌, ap, arith, append_assoc, drop-cons, add-one}
use Rattle.std.proofs.lemmas.Bool.{eqb-true}
use Rattle.std.specs.List.{filter}
use Rattle.std.specs.Prelude.{Option, Some, None}
use Rattle.entry_core.specs.Log.{find, reply_in, is_in}
use Rattle.peer_core.specs.Types.{Sealed, Entry, EntryReply, Copy, Active, Sent, Client, Osd, Append, Reply}
use Rattle.peer_core.specs.ActingSets.{others, missing}
use Rattle.peer_core.specs.Decided.{with_entry}
use Rattle.peer_core.specs.Steps.{Stepped, send}
use Rattle.peer_core.specs.Serve.{serve, serve_one, append_to, reply_with}
use Rattle.peer_core.proofs.Finding.{Found, found}
use Rattle.peer_core.specs.Stages.{log_with, entry_of, reply_of, log_after, replies_to}

-- with no other member

pub none_left : {A : Type 0} (xs : List A) → (length xs == 0) ≡ true → xs ≡ []
none_left [] is = refl
none_left (x ∷ xs) is = absurd (omega (arith, eqb-true (length (x ∷ xs)) 0 is))

alone_one : (f : Option Entry) (c : Copy) (s : Sealed) (rest : List Sealed) → others c ≡ [] →
    serve rest c ≡ record { copy = record c { log = log_after rest c.log; role = Active None; waiting = [] }; sent = replies_to c.number rest c.log } →
    serve rest (with_entry c s) ≡ record { copy = record (with_entry c s) { log = log_after rest (with_entry c s).log; role = Active None; waiting = [] }; sent = replies_to c.number rest (with_entry c s).log } →
    serve_one f c s rest (serve rest c) (serve rest (with_entry c s))
    ≡ record { copy = record c { log = log_after rest (log_with f c.log s); role = Active None; waiting = [] }; sent = reply_of c.number (entry_of f c.log s) ∷ replies_to c.number rest (log_with f c.log s) }
alone_one (Some e) c s rest alone there new = rw there refl
alone_one None c s rest alone there new = rw (alone, new) refl

pub alone : (waiting : List Sealed) (c : Copy) → others c ≡ [] →
    serve waiting c ≡ record { copy = record c { log = log_after waiting c.log; role = Active None; waiting = [] }; sent = replies_to c.number waiting c.log }
alone [] c none = refl
alone (s ∷ rest) c none = alone_one (find c.log s.id) c s rest none (alone rest c none) (alone rest (with_entry c s) none)

pub alone_copy : (c new : Copy) → (length (others c) == 0) ≡ true → new ≡ record c { log = log_after c.waiting c.log; role = Active None; waiting = [] } → (serve c.waiting c).copy ≡ new
alone_copy c new none is = ap (λ s. s.copy) (alone c.waiting c (none_left (others c) none)) ∙ sym is

pub alone_sent : (c : Copy) (before sent : List Sent) → (length (others c) == 0) ≡ true → sent ≡ before ++ replies_to c.number c.waiting c.log → sent ≡ before ++ (serve c.waiting c).sent
alone_sent c before sent none is = is ∙ ap (λ m. before ++ m) (sym (ap (λ s. s.sent) (alone c.waiting c (none_left (others c) none))))

-- with other members

filter_all : (xs : List ℕ) → filter (λ m. not (is_in [] m)) xs ≡ xs
filter_all [] = refl
filter_all (x ∷ xs) = ap (λ v. x ∷ v) (filter_all xs)

pub missing_all : (c : Copy) → missing c [] ≡ others c
missing_all c = filter_all (others c)

pub append_to_all : (c : Copy) (place : ℕ) (s : Sealed) → map (λ m. send c (Osd m) (Append c.promise place s)) (missing c []) ≡ append_to c place s
append_to_all c place s = ap (λ ms. map (λ m. send c (Osd m) (Append c.promise place s)) ms) (missing_all c)

dropped : (waiting : List Sealed) (k : ℕ) (s : Sealed) → k < length waiting → s ≡ get_or waiting k s → drop k waiting ≡ s ∷ drop (k + 1) waiting
dropped waiting k s below is = rw (add-one, drop-cons waiting k s) (ap (λ v. v ∷ drop (suc k) waiting) (sym is))

-- a request that the log has is answered from it
known_one : (f : Option Entry) (e : Entry) (c : Copy) (s : Sealed) (rest : List Sealed) (there after : Stepped) → f ≡ Some e → serve_one f c s rest there after ≡ record { copy = there.copy; sent = reply_with c e ++ there.sent }
known_one (Some x) e c s rest there after is = let same : x ≡ e = cc in rw same refl
known_one None e c s rest there after is = absurd (cc)

module _ (c : Copy) (k : ℕ) (s : Sealed) (reply : EntryReply) (below : k < length c.waiting) (is : s ≡ get_or c.waiting k s) (known : reply_in c.log s.id ≡ Some reply) where
  it : Found c.log s.id reply
  it = found c.log s.id reply known

  known_is : serve (drop k c.waiting) c ≡ record { copy = (serve (drop (k + 1) c.waiting) c).copy; sent = reply_with c it.entry ++ (serve (drop (k + 1) c.waiting) c).sent }
  known_is = ap (λ w. serve w c) (dropped c.waiting k s below is) ∙ known_one (find c.log s.id) it.entry c s (drop (k + 1) c.waiting) (serve (drop (k + 1) c.waiting) c) (serve (drop (k + 1) c.waiting) (with_entry c s)) it.is

  pub known_copy : (serve (drop (k + 1) c.waiting) c).copy ≡ (serve (drop k c.waiting) c).copy
  known_copy = ap (λ v. v.copy) (sym known_is)

  pub known_sent : (before sent : List Sent) → sent ≡ before ++ record { from = Osd c.number; to = Client; body = Reply s.id reply } ∷ [] → sent ++ (serve (drop (k + 1) c.waiting) c).sent ≡ before ++ (serve (drop k c.waiting) c).sent
  known_sent before sent told = rw (told, known_is, append_assoc, it.id_is, it.reply_is) refl

-- Operations and texts, read one after another.
use Prim.Native.Nat.{zero, suc}
use Rattle.std.proofs.Common.{◌≡◌, ◌∙◌, ℕ, ◌+◌, ◌≤◌, List, [], ◌∷◌, ◌++◌, Bool, true, false, Option, Some, None, Result, Ok, Err, IfOk, length, refl, sym, ap, arith, append_assoc}
use Rattle.world_front.proofs.Bytes.{bytes_same}
use Rattle.std.specs.Prelude.{codes}
use Rattle.std.specs.Option.{option_map}
use Rattle.std.specs.Str.{bytes_eq}
use Rattle.object_core.specs.declared.op.Op.{Op}
use Rattle.auth_db.specs.declared.caps.Caps.{Caps}
use Rattle.script_text.specs.Words.{whole_of}
use Rattle.world_script.specs.TakenWords.{Takes}
use Rattle.world_script.specs.Command.{Word, Reads, an_op, ops_within, ops_behind, ops_next, ops, said_if, no_texts, with_text, texts_onto, texts, whole}

abbrev pub onto : List Op → Option (List Op) → Option (List Op)
onto done o = option_map (λ more. done ++ more) o

-- there is room for the words that are left, and all words say what was read and what these say
pub record IsReadTo (all rest : List Word) (done : List Op) : Type 0 where
  pub most : ℕ
  pub enough : length rest ≤ most
  pub same : ops_within (length all) all ≡ onto done (ops_within most rest)

pub read_none : (all : List Word) → IsReadTo all all []
read_none all = record { most = length all; enough = omega arith; same = alone (ops_within (length all) all) }
  where
    alone : (o : Option (List Op)) → o ≡ onto [] o
    alone None = refl
    alone (Some os) = refl

said_none : (all : List Word) (o : Option (List Op)) → ops_within (length all) all ≡ o → o ≡ None → ops all ≡ None
said_none all o same none = ap (λ x. said_if x []) (same ∙ none)

within_none : (most : ℕ) (rest : List Word) → an_op rest ≡ None → ops_within most rest ≡ None
within_none zero rest none = refl
within_none (suc most) rest none = ap (λ x. ops_next x (ops_within most)) none

pub nothing_read : (all rest : List Word) (done : List Op) → IsReadTo all rest done → an_op rest ≡ None → ops all ≡ None
nothing_read all rest done h none = said_none all _ h.same (ap (onto done) (within_none h.most rest none))

pub at_the_end : (all rest : List Word) (done : List Op) → IsReadTo all rest done → length rest ≡ 0 → ops all ≡ None
at_the_end all [] done h end = nothing_read all [] done h refl
at_the_end all (w ∷ ws) done h end = absurd (omega (arith, end))

-- behind an operation
behind_it : (most : ℕ) (rest ws : List Word) (o : Op) → length rest ≤ suc most → an_op rest ≡ Some (o, ws) → ops_within (suc most) rest ≡ ops_behind o ws (ops_within most)
behind_it most rest ws o enough is = ap (λ x. ops_next x (ops_within most)) is

-- words that differ are not equal by `bytes_eq`
pub differ : (a b : Word) → (a ≡ b → ⊥) → bytes_eq a b ≡ false
differ a b other = go (bytes_eq a b) refl
  where
    go : (same : Bool) → bytes_eq a b ≡ same → same ≡ false
    go true e = absurd (other (bytes_same a b e))
    go false e = refl

not_plus : (o : Op) (ws : List Word) (next : List Word → Option (List Op)) (w : Word) → bytes_eq w (codes "+") ≡ false → ops_behind o (w ∷ ws) next ≡ None
not_plus o ws next w other = rw other

is_plus : (o : Op) (ws : List Word) (next : List Word → Option (List Op)) (w : Word) → bytes_eq w (codes "+") ≡ true → ops_behind o (w ∷ ws) next ≡ option_map (λ os. o ∷ os) (next ws)
is_plus o ws next w plus = rw plus

pub last_read : (all rest : List Word) (done : List Op) (o : Op) → IsReadTo all rest done → an_op rest ≡ Some (o, []) → ops all ≡ Some (done ++ o ∷ [], [])
last_read all rest done o h is = go h.most rest h.enough is h.same
  where
    go : (most : ℕ) (rest : List Word) → length rest ≤ most → an_op rest ≡ Some (o, []) → ops_within (length all) all ≡ onto done (ops_within most rest) → ops all ≡ Some (done ++ o ∷ [], [])
    go zero [] enough is same = absurd (cc)
    go zero (w ∷ ws) enough is same = absurd (omega arith)
    go (suc most) rest enough is same = ap (λ x. said_if x []) (same ∙ ap (onto done) (behind_it most rest [] o enough is))

pub bad_behind : (all rest ws : List Word) (w : Word) (done : List Op) (o : Op) → IsReadTo all rest done → an_op rest ≡ Some (o, w ∷ ws) → (w ≡ codes "+" → ⊥) → ops all ≡ None
bad_behind all rest ws w done o h is differs = let other = differ w (codes "+") differs in go other h.most rest h.enough is h.same
  where
    go : bytes_eq w (codes "+") ≡ false → (most : ℕ) (rest : List Word) → length rest ≤ most → an_op rest ≡ Some (o, w ∷ ws) → ops_within (length all) all ≡ onto done (ops_within most rest) → ops all ≡ None
    go other zero [] enough is same = absurd (cc)
    go other zero (v ∷ vs) enough is same = absurd (omega arith)
    go other (suc most) rest enough is same = said_none all _ same (ap (onto done) (behind_it most rest (w ∷ ws) o enough is ∙ not_plus o ws (ops_within most) w other))

pub more_behind : (all rest ws : List Word) (w : Word) (done : List Op) (o : Op) → IsReadTo all rest done → an_op rest ≡ Some (o, w ∷ ws) → w ≡ codes "+" → length ws + 1 ≤ length rest → IsReadTo all ws (done ++ o ∷ [])
more_behind all rest ws w done o h is same_word shorter = let plus : bytes_eq w (codes "+") ≡ true = ap (λ v. bytes_eq v (codes "+")) same_word in go plus h.most rest h.enough is h.same shorter
  where
    joined : (x : Option (List Op)) → onto done (option_map (λ os. o ∷ os) x) ≡ onto (done ++ o ∷ []) x
    joined None = refl
    joined (Some os) = ap Some (sym (append_assoc done (o ∷ []) os))

    go : bytes_eq w (codes "+") ≡ true → (most : ℕ) (rest : List Word) → length rest ≤ most → an_op rest ≡ Some (o, w ∷ ws) → ops_within (length all) all ≡ onto done (ops_within most rest) → length ws + 1 ≤ length rest → IsReadTo all ws (done ++ o ∷ [])
    go plus zero [] enough is same shorter = absurd (cc)
    go plus zero (v ∷ vs) enough is same shorter = absurd (omega arith)
    go plus (suc most) rest enough is same shorter = record {
      most = most;
      enough = omega arith;
      same = same ∙ ap (onto done) (behind_it most rest (w ∷ ws) o enough is ∙ is_plus o ws (ops_within most) w plus) ∙ joined (ops_within most ws);
    }

-- ---- texts

pub text_refused : (all words rest : List Word) (kind text given : Word) (caps : Caps) → texts_onto (Some no_texts) all ≡ texts_onto (Some caps) words
    → words ≡ kind ∷ text ∷ rest → given ≡ text → with_text kind given caps ≡ None → texts all ≡ None
text_refused all words rest kind text given caps same are is none =
    let e : texts_onto (Some caps) (kind ∷ text ∷ rest) ≡ None = ap (λ x. texts_onto x rest) (ap (λ t. with_text kind t caps) (sym is) ∙ none) in
    ap (λ x. said_if x []) (same ∙ ap (texts_onto (Some caps)) are ∙ e)

pub text_added : (all words rest : List Word) (kind text given : Word) (caps more : Caps) → texts_onto (Some no_texts) all ≡ texts_onto (Some caps) words
    → words ≡ kind ∷ text ∷ rest → given ≡ text → with_text kind given caps ≡ Some more → texts_onto (Some no_texts) all ≡ texts_onto (Some more) rest
text_added all words rest kind text given caps more same are is added =
    same ∙ ap (texts_onto (Some caps)) are ∙ ap (λ x. texts_onto x rest) (ap (λ t. with_text kind t caps) (sym is) ∙ added)

-- what reads the same takes the same
takes_as : {A : Type 0} (f g : Reads A) (old new : List Word) (found : Option A) → ((ws : List Word) → f ws ≡ g ws) → Takes g old new found → Takes f old new found
takes_as f g old new None same h = same old ∙ h
takes_as f g old new (Some x) same h = same old ∙ h

pub ok_takes_as : {A E : Type 0} (f g : Reads A) (old new : List Word) (found : Result (Option A) E) → ((ws : List Word) → f ws ≡ g ws) → IfOk found (Takes g old new) → IfOk found (Takes f old new)
ok_takes_as f g old new (Ok found) same h = takes_as f g old new found same h
ok_takes_as f g old new (Err e) same h = h

-- what was read of these words, and none left behind it
pub whole_is : {A : Type 0} (reads : Reads A) (old new : List Word) (found : Option A) → Takes reads old new found → whole_of new found ≡ whole (reads old)
whole_is reads old [] None takes = sym (ap whole takes)
whole_is reads old (w ∷ ws) None takes = sym (ap whole takes)
whole_is reads old [] (Some x) takes = sym (ap whole takes)
whole_is reads old (w ∷ ws) (Some x) takes = sym (ap whole takes)

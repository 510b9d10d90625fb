-- What reading to a stage says of the tokens.
use Rattle.std.proofs.Common.{◌≡◌, ℕ, Bool, true, false, List, [], ◌∷◌, ◌++◌, Result, Ok, Err, refl, sym, ap, subst, ◌∙◌, inl, inr, append_assoc}
use Rattle.std.specs.Prelude.{◌⊎◌}
use Rattle.std.proofs.lemmas.List.{append-nil}
use Rattle.cap_text.specs.declared.token.Token.{Token}
use Rattle.cap_text.specs.declared.token.Token.TheVariants.{Comma, Semicolon, Equals, Star, Word, Quoted}
use Rattle.cap_grants.specs.declared.grant.Grant.{Grant}
use Rattle.cap_grants.specs.declared.fault_kind.FaultKind.{FaultKind}
use Rattle.cap_grants.specs.declared.fault_kind.FaultKind.TheVariants.{UnknownWord}
use Rattle.cap_text.specs.Stage.{Stage, State}
use Rattle.cap_text.specs.Stage as stages
use Rattle.cap_text.specs.Grammar.{BeginsApart, GrantPhrase, Separated, Followed, Grants}
use Rattle.cap_text.specs.Assembly.{ended}
use Rattle.cap_text.specs.Machine.{step, close, after_grant, in_grant, advance, finish_at, finish}
use Rattle.std.proofs.Common.{suc, ◌<◌, ◌≤◌, length, arith}
use Rattle.std.proofs.lemmas.List.{length-append}
use Rattle.cap_text.specs.Faults.{Next, AtEnd, IsViable, MayFollow, IsSeparator, AreFull, IsPastLimit}
use Rattle.cap_text.proofs.Forth.{◌then◌, run, at_stage, complete}
use Rattle.cap_text.proofs.Back.{InGrant, is_start, back_in, close_in, live_in}

abbrev pub whole : State → Result State FaultKind
whole s = Ok s

abbrev pub all_of : List Grant → Result (List Grant) FaultKind
all_of gs = Ok gs

abbrev pub origin : State
origin = at_stage [] stages.Start

-- ---- one token

-- a separator ends a grant, and another token goes on with it
abbrev pub Moves : State → Token → State → Type 0
Moves s t u =
    (IsSeparator t × ((g : Grant) × (close s.stage ≡ Ok g) × (u ≡ at_stage (s.done ++ g ∷ []) stages.Separator)))
    ⊎ ((q : Stage) × (step s.stage t ≡ Ok q) × (u ≡ at_stage s.done q))

after_is : (done : List Grant) (r : Result Grant FaultKind) (u : State) → after_grant done r ≡ whole u → (g : Grant) × (r ≡ Ok g) × (u ≡ at_stage (done ++ g ∷ []) stages.Separator)
after_is done (Ok g) u e = let x : whole (at_stage (done ++ g ∷ []) stages.Separator) ≡ whole u = e in (g, refl, cc)
after_is done (Err k) u e = absurd (let x : Err k ≡ whole u = e in cc)

in_is : (done : List Grant) (r : Result Stage FaultKind) (u : State) → in_grant done r ≡ whole u → (q : Stage) × (r ≡ Ok q) × (u ≡ at_stage done q)
in_is done (Ok q) u e = let x : whole (at_stage done q) ≡ whole u = e in (q, refl, cc)
in_is done (Err k) u e = absurd (let x : Err k ≡ whole u = e in cc)

pub moves : (s : State) (t : Token) (u : State) → advance s t ≡ whole u → Moves s t u
moves s Comma u e = inl (tt, after_is s.done (close s.stage) u e)
moves s Semicolon u e = inl (tt, after_is s.done (close s.stage) u e)
moves s Equals u e = inr (in_is s.done (step s.stage Equals) u e)
moves s (Star b) u e = inr (in_is s.done (step s.stage (Star b)) u e)
moves s (Word w) u e = inr (in_is s.done (step s.stage (Word w)) u e)
moves s (Quoted q) u e = inr (in_is s.done (step s.stage (Quoted q)) u e)

-- a run that ends went on from where its front ends
pub then_is : {A : Type 0} → (r : Result State FaultKind) (f : State → Result A FaultKind) (x : A) → (r then f) ≡ Ok x → (u : State) × (r ≡ Ok u) × (f u ≡ Ok x)
then_is (Ok u) f x e = (u, refl, e)
then_is (Err k) f x e = absurd cc

-- ---- what is left before tokens that were read

-- the tokens complete these grants
abbrev LeftMore : List Grant → Stage → List Token → Type 0
LeftMore [] p ts = (p ≡ stages.Start) × (ts ≡ [])
LeftMore (g ∷ gs) p ts = (rest : List Token) × InGrant p ts g rest × Followed GrantPhrase rest gs

abbrev Left : State → List Token → List Grant → Type 0
Left s ts gs = (more : List Grant) × (gs ≡ s.done ++ more) × LeftMore more s.stage ts

separated : (t : Token) (ts : List Token) → IsSeparator t → Separated (t ∷ ts) ts × BeginsApart (t ∷ ts)
separated Comma ts h = (inl refl, tt)
separated Semicolon ts h = (inr refl, tt)
separated t ts h = absurd h

back : (s : State) (t : Token) (u : State) (ts : List Token) (total : List Grant) → Moves s t u → Left u ts total → Left s (t ∷ ts) total
back s t u ts total (inl (sep, (g, c, e))) left =
    let P : State → Type 0 = λ x. Left x ts total in
    goes (subst P e left) where
      goes : Left (at_stage (s.done ++ g ∷ []) stages.Separator) ts total → Left s (t ∷ ts) total
      goes ([], eq, h) = let x : stages.Separator ≡ stages.Start = h.0 in absurd cc
      goes (k ∷ gs, eq, (rest, one, others)) =
          let both = separated t ts sep in
          (g ∷ k ∷ gs, eq ∙ append_assoc s.done (g ∷ []) (k ∷ gs), (t ∷ ts, close_in s.stage g (t ∷ ts) both.1 c, (ts, rest, both.0, one, others)))
back s t u ts total (inr (q, c, e)) left =
    let P : State → Type 0 = λ x. Left x ts total in
    goes (subst P e left) where
      goes : Left (at_stage s.done q) ts total → Left s (t ∷ ts) total
      goes ([], eq, h) = absurd (let x : true ≡ false = sym (ap is_start h.0) ∙ (back_in s.stage t ts q c).0 in cc)
      goes (g ∷ gs, eq, (rest, h, others)) = (g ∷ gs, eq, (rest, (back_in s.stage t ts q c).1 g rest h, others))

back_over : (p : List Token) (s u : State) (ts : List Token) (total : List Grant) → run s p ≡ whole u → Left u ts total → Left s (p ++ ts) total
back_over [] s u ts total e left = let same : s ≡ u = cc in (let P : State → Type 0 = λ x. Left x ts total in subst P (sym same) left)
back_over (t ∷ p) s u ts total e left = let m = then_is (advance s t) (λ v. run v p) u e in back s t m.0 (p ++ ts) total (moves s t m.0 m.1) (back_over p m.0 u ts total m.2 left)

-- how a list ends
abbrev Ended : State → List Grant → Type 0
Ended s gs = ((s.stage ≡ stages.Start) × (gs ≡ s.done)) ⊎ ((g : Grant) × (close s.stage ≡ Ok g) × (gs ≡ s.done ++ g ∷ []))

ended_is : (done : List Grant) (p : Stage) (r : Result Grant FaultKind) (gs : List Grant) → close p ≡ r → ended done r ≡ all_of gs → Ended (at_stage done p) gs
ended_is done p (Ok g) gs c e = let x : all_of (done ++ g ∷ []) ≡ all_of gs = e in (let same : done ++ g ∷ [] ≡ gs = cc in inr (g, c, sym same))
ended_is done p (Err k) gs c e = absurd (let x : Err k ≡ all_of gs = e in cc)

ended_at : (done : List Grant) (p : Stage) (gs : List Grant) → finish_at p done ≡ all_of gs → Ended (at_stage done p) gs
ended_at done stages.Start gs e = let same : done ≡ gs = cc in inl (refl, sym same)
ended_at done stages.Separator gs e = absurd cc
ended_at done (stages.Clauses may d) gs e = ended_is done (stages.Clauses may d) (close (stages.Clauses may d)) gs refl e
ended_at done (stages.Letters f may d) gs e = ended_is done (stages.Letters f may d) (close (stages.Letters f may d)) gs refl e
ended_at done (stages.ClassRead f may d) gs e = ended_is done (stages.ClassRead f may d) (close (stages.ClassRead f may d)) gs refl e
ended_at done (stages.Method c may d) gs e = ended_is done (stages.Method c may d) (close (stages.Method c may d)) gs refl e
ended_at done (stages.NamespaceWord w may d) gs e = ended_is done (stages.NamespaceWord w may d) (close (stages.NamespaceWord w may d)) gs refl e
ended_at done p gs e = absurd cc

began : (s : State) (gs : List Grant) → Ended s gs → Left s [] gs
began s gs (inl (p, e)) = ([], e ∙ sym (append-nil s.done), (p, refl))
began s gs (inr (g, c, e)) = (g ∷ [], e, ([], close_in s.stage g [] tt c, refl))

listed : (ts : List Token) (gs : List Grant) → Left origin ts gs → Grants GrantPhrase ts gs
listed ts [] ([], e, h) = h.1
listed ts [] (k ∷ ks, e, h) = absurd cc
listed ts (g ∷ gs) ([], e, h) = absurd cc
listed ts (g ∷ gs) (k ∷ ks, e, (rest, h, others)) =
    let head : g ≡ k = cc in
    let tail : gs ≡ ks = cc in
    let P : Grant → Type 0 = λ x. GrantPhrase ts x rest in
    let Q : List Grant → Type 0 = λ x. Followed GrantPhrase rest x in
    (rest, subst P (sym head) h, subst Q (sym tail) others)

-- what is read to the end is in the grammar
pub sound : (ts : List Token) (u : State) (gs : List Grant) → run origin ts ≡ whole u → finish u ≡ all_of gs → Grants GrantPhrase ts gs
sound ts u gs e f =
    let P : List Token → Type 0 = λ x. Grants GrantPhrase x gs in
    subst P (append-nil ts) (listed (ts ++ []) gs (back_over ts origin u [] gs e (began u gs (ended_at u.done u.stage gs f))))

-- what was read begins a list
pub viable : (p : List Token) (u : State) → run origin p ≡ whole u → IsViable p
viable p u e =
    let l = live_in u.stage in
    (l.0, u.done ++ l.1 ∷ [], listed (p ++ l.0) _ (back_over p origin u l.0 _ e (l.1 ∷ [], refl, ([], l.2, refl))))

pub run-append : (p q : List Token) (s : State) → run s (p ++ q) ≡ (run s p then λ u. run u q)
run-append [] q s = refl
run-append (t ∷ p) q s = goes (advance s t) (λ v. run-append p q v) where
  goes : (r : Result State FaultKind) → ((v : State) → run v (p ++ q) ≡ (run v p then λ u. run u q)) → (r then λ v. run v (p ++ q)) ≡ ((r then λ v. run v p) then λ u. run u q)
  goes (Ok v) rest = rest v
  goes (Err k) rest = refl

pub run_on : (p q : List Token) (u : State) → run origin p ≡ whole u → run origin (p ++ q) ≡ run u q
run_on p q u e = run-append p q origin ∙ ap (λ r. r then λ v. run v q) e

pub may : (p : List Token) (u v : State) (t : Token) → run origin p ≡ whole u → advance u t ≡ whole v → MayFollow p t
may p u v t e a = viable (p ++ t ∷ []) v (run_on p (t ∷ []) u e ∙ ap (λ r. r then λ x. run x []) a)

-- what the list gives where the tokens before it were read
pub given_on : (p q : List Token) (u : State) (gs : List Grant) → run origin p ≡ whole u → Grants GrantPhrase (p ++ q) gs → (run u q then finish) ≡ all_of gs
given_on p q u gs e h = sym (ap (λ r. r then finish) (run_on p q u e)) ∙ complete (p ++ q) gs h

pub may_not : (p : List Token) (u : State) (t : Token) (k : FaultKind) → run origin p ≡ whole u → advance u t ≡ Err k → MayFollow p t → ⊥
may_not p u t k e a (ts, gs, h) =
    let P : List Token → Type 0 = λ x. Grants GrantPhrase x gs in
    let good = given_on p (t ∷ ts) u gs e (subst P (append_assoc p (t ∷ []) ts) h) in
    let none : (run u (t ∷ ts) then finish) ≡ Err k = ap (λ r. (r then λ x. run x ts) then finish) a in
    (let x : Err k ≡ all_of gs = sym none ∙ good in cc)

pub no_end : (p : List Token) (u : State) (k : FaultKind) → run origin p ≡ whole u → finish u ≡ Err k → (gs : List Grant) → Grants GrantPhrase p gs → ⊥
no_end p u k e f gs h =
    let P : List Token → Type 0 = λ x. Grants GrantPhrase x gs in
    let good = given_on p [] u gs e (subst P (sym (append-nil p)) h) in
    (let x : Err k ≡ all_of gs = sym f ∙ good in cc)

-- ---- how many grants were read

abbrev is_separator : Stage → Bool
is_separator stages.Separator = true
is_separator p = false

-- no more than 64 grants, and a 65th was not begun
abbrev pub Room : State → Type 0
Room s = (length s.done < 64) ⊎ ((length s.done ≡ 64) × (s.stage ≡ stages.Separator))

pushed : (gs : List Grant) (g : Grant) → length (gs ++ g ∷ []) ≡ suc (length gs)
pushed gs g = omega (arith, length-append gs (g ∷ []))

inside : (p : Stage) → is_start p ≡ false → is_separator p ≡ false
inside stages.Start e = refl
inside stages.Separator e = absurd cc
inside p e = refl

-- a token more: the count grows with each separator
abbrev Counts : State → State → Type 0
Counts s u =
    ((is_separator u.stage ≡ true) × (length u.done ≡ suc (length s.done))) ⊎ ((is_separator u.stage ≡ false) × (length u.done ≡ length s.done))

counts : (s : State) (t : Token) (u : State) → Moves s t u → Counts s u
counts s t u (inl (sep, (g, c, e))) = let P : State → Type 0 = λ x. Counts s x in subst P (sym e) (inl (refl, pushed s.done g))
counts s t u (inr (q, c, e)) = let P : State → Type 0 = λ x. Counts s x in subst P (sym e) (inr (inside q (back_in s.stage t [] q c).0, refl))

counted : (s u : State) → Counts s u → length s.done ≤ length u.done
counted s u (inl h) = omega (arith, h.1)
counted s u (inr h) = omega (arith, h.1)

pub advance_room : (s : State) (t : Token) (u : State) → length s.done < 64 → advance s t ≡ whole u → Room u
advance_room s t u few e = goes (moves s t u e) where
  goes : Moves s t u → Room u
  goes (inl (sep, (g, c, eq))) = let P : State → Type 0 = λ x. Room x in subst P (sym eq) (full (s.done ++ g ∷ []) (pushed s.done g)) where
    full : (gs : List Grant) → length gs ≡ suc (length s.done) → Room (at_stage gs stages.Separator)
    full gs len = elim (at_most (length gs) (omega (arith, len, few))) [ inl h ↦ inl h | inr h ↦ inr (h, refl) ] where
      at_most : (n : ℕ) → n ≤ 64 → (n < 64) ⊎ (n ≡ 64)
      at_most n h = grind (arith)
  goes (inr (q, c, eq)) = let P : State → Type 0 = λ x. Room x in subst P (sym eq) (inl few)

pub finish_few : (u : State) (gs : List Grant) → Room u → finish u ≡ all_of gs → length gs ≤ 64
finish_few u gs room e = goes (ended_at u.done u.stage gs e) room where
  goes : Ended u gs → Room u → length gs ≤ 64
  goes (inl (p, same)) (inl h) = omega (arith, ap length same, h)
  goes (inl (p, same)) (inr h) = omega (arith, ap length same, h.0)
  goes (inr (g, c, same)) (inl h) = omega (arith, ap length same, pushed u.done g, h)
  goes (inr (g, c, same)) (inr h) = absurd (let x : Err UnknownWord ≡ Ok g = sym (ap close h.1) ∙ c in cc)

-- over some tokens the count does not fall, and it grows where a separator is the last
grows : (p : List Token) (s u : State) → run s p ≡ whole u → length s.done ≤ length u.done
grows [] s u e = let same : s ≡ u = cc in (let x : length s.done ≡ length u.done = ap (λ v. length v.done) same in omega (arith, x))
grows (t ∷ p) s u e =
    let m = then_is (advance s t) (λ v. run v p) u e in
    let a = counted s m.0 (counts s t m.0 (moves s t m.0 m.1)) in
    let b = grows p m.0 u m.2 in
    omega (arith, a, b)

grows_more : (t : Token) (p : List Token) (s u : State) → run s (t ∷ p) ≡ whole u → is_separator u.stage ≡ true → length s.done < length u.done
grows_more t [] s u e sep =
    let m = then_is (advance s t) (λ v. run v []) u e in
    let same : m.0 ≡ u = (let x : whole m.0 ≡ whole u = m.2 in cc) in
    let P : State → Type 0 = λ x. Counts s x in
    goes (subst P same (counts s t m.0 (moves s t m.0 m.1))) where
      goes : Counts s u → length s.done < length u.done
      goes (inl h) = omega (arith, h.1)
      goes (inr h) = absurd (let x : true ≡ false = sym sep ∙ h.0 in cc)
grows_more t (t' ∷ p) s u e sep =
    let m = then_is (advance s t) (λ v. run v (t' ∷ p)) u e in
    let a = counted s m.0 (counts s t m.0 (moves s t m.0 m.1)) in
    let b = grows_more t' p m.0 u m.2 sep in
    omega (arith, a, b)

finish_closed : (done : List Grant) (p : Stage) (g : Grant) → close p ≡ Ok g → finish_at p done ≡ all_of (done ++ g ∷ [])
finish_closed done stages.Start g e = absurd (let x : Err UnknownWord ≡ Ok g = e in cc)
finish_closed done stages.Separator g e = ap (ended done) e
finish_closed done (stages.Clauses may d) g e = ap (ended done) e
finish_closed done (stages.Letters f may d) g e = ap (ended done) e
finish_closed done (stages.ClassRead f may d) g e = ap (ended done) e
finish_closed done (stages.Method c may d) g e = ap (ended done) e
finish_closed done (stages.Assigned s may d) g e = ap (ended done) e
finish_closed done (stages.Value s may d) g e = ap (ended done) e
finish_closed done (stages.Namespace may d) g e = ap (ended done) e
finish_closed done (stages.NamespaceEquals may d) g e = ap (ended done) e
finish_closed done (stages.NamespaceWord w may d) g e = ap (ended done) e
finish_closed done (stages.Key a d) g e = ap (ended done) e
finish_closed done (stages.KeyEquals a k d) g e = ap (ended done) e
finish_closed done (stages.KeyValue a k d) g e = ap (ended done) e

-- ---- the limit of grants

same_lists : (a b : List Grant) → all_of a ≡ all_of b → a ≡ b
same_lists a b e = cc

separator_moves : (s : State) (t : Token) (u : State) → IsSeparator t → advance s t ≡ whole u → (g : Grant) × (close s.stage ≡ Ok g) × (u ≡ at_stage (s.done ++ g ∷ []) stages.Separator)
separator_moves s Comma u sep e = after_is s.done (close s.stage) u e
separator_moves s Semicolon u sep e = after_is s.done (close s.stage) u e
separator_moves s t u sep e = absurd sep

-- where 64 grants and a separator were read, 64 grants are done
full_done : (q r : List Token) (u : State) → run origin (q ++ r) ≡ whole u → AreFull q → (w : State) × (length w.done ≡ 64) × (run w r ≡ whole u)
full_done q r u e (p, t, gs, split, sep, h, len) =
    let P : List Token → Type 0 = λ x. run origin (x ++ r) ≡ whole u in
    let there : run origin ((p ++ t ∷ []) ++ r) ≡ whole u = subst P split e in
    let first = then_is (run origin p) finish gs (complete p gs h) in
    let on : (advance first.0 t then λ v. run v r) ≡ whole u = sym (ap (run origin) (append_assoc p (t ∷ []) r) ∙ run_on p (t ∷ r) first.0 first.1) ∙ there in
    let second = then_is (advance first.0 t) (λ v. run v r) u on in
    let m = separator_moves first.0 t second.0 sep second.1 in
    let same : gs ≡ first.0.done ++ m.0 ∷ [] = same_lists gs _ (sym first.2 ∙ finish_closed first.0.done first.0.stage m.0 m.1) in
    (second.0, ap (λ v. length v.done) m.2 ∙ sym (ap length same) ∙ len, second.2)

pub not_past : (p : List Token) (u : State) (n : Next) → run origin p ≡ whole u → length u.done < 64 → IsPastLimit p n → ⊥
not_past p u n e few (q, r, split, full, on) =
    let w = full_done q r u (ap (run origin) (sym split) ∙ e) full in
    let more = grows r w.0 u w.2 in
    omega (arith, more, w.1, few)

pub not_past_end : (p : List Token) (u : State) → run origin p ≡ whole u → Room u → IsPastLimit p AtEnd → ⊥
not_past_end p u e (inl few) past = not_past p u AtEnd e few past
not_past_end p u e (inr h) (q, [], split, full, on) = on
not_past_end p u e (inr h) (q, t ∷ r, split, full, on) =
    let w = full_done q (t ∷ r) u (ap (run origin) (sym split) ∙ e) full in
    let more = grows_more t r w.0 u w.2 (ap is_separator h.1) in
    omega (arith, more, w.1, h.0)

-- the separator that was read last
Last : List Token → State → State → Type 0
Last p s u = (q : List Token) × (t : Token) × (v : State) × (p ≡ q ++ t ∷ []) × IsSeparator t × (run s q ≡ whole v) × (finish v ≡ all_of u.done)

last_move : (s : State) (t : Token) (u : State) → u.stage ≡ stages.Separator → Moves s t u → Last (t ∷ []) s u
unfolding Last
last_move s t u at (inl (sep, (g, c, e))) = ([], t, s, refl, sep, refl, finish_closed s.done s.stage g c ∙ ap (λ v. all_of v.done) (sym e))
last_move s t u at (inr (q, c, e)) = absurd (let x : false ≡ true = sym (back_in s.stage t [] q c).0 ∙ ap (λ v. is_start v.stage) (sym e) ∙ ap is_start at in cc)

last_of : (t : Token) (p : List Token) (s u : State) → run s (t ∷ p) ≡ whole u → u.stage ≡ stages.Separator → Last (t ∷ p) s u
unfolding Last
last_of t [] s u e at =
    let m = then_is (advance s t) (λ v. run v []) u e in
    let same : m.0 ≡ u = (let x : whole m.0 ≡ whole u = m.2 in cc) in
    last_move s t u at (moves s t u (m.1 ∙ ap whole same))
last_of t (t' ∷ p) s u e at =
    let m = then_is (advance s t) (λ v. run v (t' ∷ p)) u e in
    let l = last_of t' p m.0 u m.2 at in
    (t ∷ l.0, l.1, l.2, ap (λ x. t ∷ x) l.3, l.4, ap (λ r. r then λ v. run v l.0) m.1 ∙ l.5, l.6)

pub full : (p : List Token) (u : State) → run origin p ≡ whole u → length u.done ≡ 64 → u.stage ≡ stages.Separator → AreFull p
unfolding Last
full [] u e len at = absurd (let same : origin ≡ u = cc in (let x : stages.Start ≡ stages.Separator = ap (λ v. v.stage) same ∙ at in cc))
full (t ∷ p) u e len at = let l = last_of t p origin u e at in (l.0, l.1, u.done, l.3, l.4, sound l.0 l.2 u.done l.5 l.6, len)

-- what goes on behind 64 grants and a separator is more than 64 grants
more_than : (p : List Token) (s : State) (gs : List Grant) → (s.stage ≡ stages.Start → ⊥) → (run s p then finish) ≡ all_of gs → length s.done < length gs
more_than [] s gs begun e = goes (ended_at s.done s.stage gs e) where
  goes : Ended s gs → length s.done < length gs
  goes (inl h) = absurd (begun h.0)
  goes (inr (g, c, same)) = omega (arith, ap length same, pushed s.done g)
more_than (t ∷ p) s gs begun e =
    let first = then_is (advance s t then λ v. run v p) finish gs e in
    let m = then_is (advance s t) (λ v. run v p) first.0 first.1 in
    let mv = moves s t m.0 m.1 in
    let a = counted s m.0 (counts s t m.0 mv) in
    let b = more_than p m.0 gs (started mv) (ap (λ r. r then finish) m.2 ∙ first.2) in
    omega (arith, a, b) where
      started : {v : State} → Moves s t v → v.stage ≡ stages.Start → ⊥
      started (inl (sep, (g, c, eq))) h = let x : stages.Separator ≡ stages.Start = sym (ap (λ y. y.stage) eq) ∙ h in cc
      started (inr (q, c, eq)) h = let x : false ≡ true = sym (back_in s.stage t [] q c).0 ∙ ap (λ y. is_start y.stage) (sym eq) ∙ ap is_start h in cc

pub too_many : (p q : List Token) (u : State) (gs : List Grant) → run origin p ≡ whole u → length u.done ≡ 64 → u.stage ≡ stages.Separator → length gs ≤ 64 → Grants GrantPhrase (p ++ q) gs → ⊥
too_many p q u gs e len at few h =
    let more = more_than q u gs (λ z. let x : stages.Separator ≡ stages.Start = sym at ∙ z in cc) (given_on p q u gs e h) in
    omega (arith, more, len, few)

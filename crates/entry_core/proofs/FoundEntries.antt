-- Where an entry that is found stands.
use Rattle.std.proofs.Common.{◌≡◌, ◌∙◌, ℕ, ◌==◌, List, [], ◌∷◌, ◌++◌, Bool, true, false, if◌then◌else◌, Some, refl, sym, ap, subst, append-nil, append_assoc}
use Rattle.std.specs.Cmp.{unsigned_Decides}
use Rattle.entry_core.specs.Log.{LegalFrom, decide, find}
use Rattle.entry_core.specs.Laws.{FindTells}
use Rattle.store_core.specs.declared.entry.Entry.{Entry}

-- the same behind other entries
record Found (before es : List Entry) (id : ℕ) (e : Entry) : Type 0 where
  front : List Entry
  behind : List Entry
  whole : front ++ e ∷ behind ≡ es
  decided : e ≡ decide (before ++ front) e.sealed
  number : e.sealed.id ≡ id

found : (before es : List Entry) (id : ℕ) (e : Entry) → LegalFrom before es → find es id ≡ Some e → Found before es id e
found before [] id e legal is = absurd (cc)
found before (x ∷ xs) id e legal is = go (x.sealed.id == id) refl is (λ more. found (before ++ x ∷ []) xs id e legal.2 more)
  where
    go : (b : Bool) → (x.sealed.id == id) ≡ b → (if b then Some x else find xs id) ≡ Some e → (find xs id ≡ Some e → Found (before ++ x ∷ []) xs id e) → Found before (x ∷ xs) id e
    go true number one rest =
        let same : x ≡ e = cc in
        let P : Entry → Type 0 = λ y. Found before (x ∷ xs) id y in
        subst P same (record {
          front = [];
          behind = xs;
          whole = refl;
          decided = legal.1 ∙ ap (λ l. decide l x.sealed) (sym (append-nil before));
          number = (unsigned_Decides x.sealed.id id).0 number;
        })
    go false number more rest =
        let f = rest more in
        record {
          front = x ∷ f.front;
          behind = f.behind;
          whole = ap (λ l. x ∷ l) f.whole;
          decided = f.decided ∙ ap (λ l. decide l e.sealed) (append_assoc before (x ∷ []) f.front);
          number = f.number;
        }

pub find_tells : FindTells
find_tells log id e legal is =
    let f = found [] log id e legal is in
    record { before = f.front; behind = f.behind; whole = f.whole; decided = f.decided; number = f.number }

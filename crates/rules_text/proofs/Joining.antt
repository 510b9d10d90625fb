-- What is written piece by piece, as one piece.
use Rattle.std.proofs.Common.{◌≡◌, ℕ, List, ◌++◌, Result, Ok, Err, OnOk, is_ok, if◌then◌else◌, ap, ◌∙◌, append_assoc}

-- a text that is written last, where it is
pub ended : {T E : Type 0} (result : Result T E) (new whole old : List ℕ) → new ≡ (if is_ok result then whole else old) → OnOk result (new ≡ whole)
ended (Ok value) new whole old h = h
ended (Err fault) new whole old h = tt

pub two : (t0 t1 t2 a b : List ℕ) → t1 ≡ t0 ++ a → t2 ≡ t1 ++ b → t2 ≡ t0 ++ (a ++ b)
two t0 t1 t2 a b p q = q ∙ (ap (λ t. t ++ b) p ∙ append_assoc t0 a b)

pub three : (t0 t1 t2 t3 a b c : List ℕ) → t1 ≡ t0 ++ a → t2 ≡ t1 ++ b → t3 ≡ t2 ++ c → t3 ≡ t0 ++ (a ++ (b ++ c))
three t0 t1 t2 t3 a b c p q r = two t0 t1 t3 a (b ++ c) p (two t1 t2 t3 b c q r)

pub four : (t0 t1 t2 t3 t4 a b c d : List ℕ) → t1 ≡ t0 ++ a → t2 ≡ t1 ++ b → t3 ≡ t2 ++ c → t4 ≡ t3 ++ d → t4 ≡ t0 ++ (a ++ (b ++ (c ++ d)))
four t0 t1 t2 t3 t4 a b c d p q r s = two t0 t1 t4 a (b ++ (c ++ d)) p (three t1 t2 t3 t4 b c d q r s)

pub five : (t0 t1 t2 t3 t4 t5 a b c d e : List ℕ) → t1 ≡ t0 ++ a → t2 ≡ t1 ++ b → t3 ≡ t2 ++ c → t4 ≡ t3 ++ d → t5 ≡ t4 ++ e
    → t5 ≡ t0 ++ (a ++ (b ++ (c ++ (d ++ e))))
five t0 t1 t2 t3 t4 t5 a b c d e p q r s t = two t0 t1 t5 a (b ++ (c ++ (d ++ e))) p (four t1 t2 t3 t4 t5 b c d e q r s t)

pub six : (t0 t1 t2 t3 t4 t5 t6 a b c d e f : List ℕ) → t1 ≡ t0 ++ a → t2 ≡ t1 ++ b → t3 ≡ t2 ++ c → t4 ≡ t3 ++ d → t5 ≡ t4 ++ e → t6 ≡ t5 ++ f
    → t6 ≡ t0 ++ (a ++ (b ++ (c ++ (d ++ (e ++ f)))))
six t0 t1 t2 t3 t4 t5 t6 a b c d e f p q r s t u = two t0 t1 t6 a (b ++ (c ++ (d ++ (e ++ f)))) p (five t1 t2 t3 t4 t5 t6 b c d e f q r s t u)

pub seven : (t0 t1 t2 t3 t4 t5 t6 t7 a b c d e f g : List ℕ) → t1 ≡ t0 ++ a → t2 ≡ t1 ++ b → t3 ≡ t2 ++ c → t4 ≡ t3 ++ d → t5 ≡ t4 ++ e → t6 ≡ t5 ++ f → t7 ≡ t6 ++ g
    → t7 ≡ t0 ++ (a ++ (b ++ (c ++ (d ++ (e ++ (f ++ g))))))
seven t0 t1 t2 t3 t4 t5 t6 t7 a b c d e f g p q r s t u v = two t0 t1 t7 a (b ++ (c ++ (d ++ (e ++ (f ++ g))))) p (six t1 t2 t3 t4 t5 t6 t7 b c d e f g q r s t u v)

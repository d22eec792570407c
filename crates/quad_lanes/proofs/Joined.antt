-- Texts that are written one behind the other.
use Rattle.std.proofs.Common.{◌≡◌, ℕ, List, ◌++◌, refl, append_assoc}

pub three : (out x y z a b c : List ℕ) → x ≡ out ++ a → y ≡ x ++ b → z ≡ y ++ c →
    z ≡ out ++ (a ++ (b ++ c))
three out x y z a b c e f g = rw (g, f, e, append_assoc (out ++ a) b c, append_assoc out a (b ++ c)) refl

pub four : (out w x y z a b c d : List ℕ) → w ≡ out ++ a → x ≡ w ++ b → y ≡ x ++ c → z ≡ y ++ d →
    z ≡ out ++ (a ++ (b ++ (c ++ d)))
four out w x y z a b c d e1 e2 e3 e4 =
    rw (e4, e3, append_assoc x c d) (three out w x (x ++ (c ++ d)) a b (c ++ d) e1 e2 refl)

pub five : (out v w x y z a b c d f : List ℕ) → v ≡ out ++ a → w ≡ v ++ b → x ≡ w ++ c →
    y ≡ x ++ d → z ≡ y ++ f → z ≡ out ++ (a ++ (b ++ (c ++ (d ++ f))))
five out v w x y z a b c d f e1 e2 e3 e4 e5 =
    rw (e5, e4, append_assoc x d f)
    (three out v w (x ++ (d ++ f)) a b (c ++ (d ++ f)) e1 e2 (rw (e3, append_assoc w c (d ++ f)) refl))

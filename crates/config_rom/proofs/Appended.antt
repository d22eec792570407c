-- Texts that are appended one after another.
use Rattle.std.proofs.Common.{◌≡◌, ℕ, List, ◌++◌, ap, ◌∙◌, append_assoc}

two : (o a b x y : List ℕ) → x ≡ o ++ a → y ≡ x ++ b → y ≡ o ++ (a ++ b)
two o a b x y e f = f ∙ ap (λ l. l ++ b) e ∙ append_assoc o a b

three : (o a b c x y z : List ℕ) → x ≡ o ++ a → y ≡ x ++ b → z ≡ y ++ c → z ≡ o ++ (a ++ (b ++ c))
three o a b c x y z e f g = two o a (b ++ c) x z e (two x b c y z f g)

pub four : (o a b c d x y z w : List ℕ) → x ≡ o ++ a → y ≡ x ++ b → z ≡ y ++ c → w ≡ z ++ d →
    w ≡ o ++ (a ++ (b ++ (c ++ d)))
four o a b c d x y z w e f g h = two o a (b ++ (c ++ d)) x w e (three x b c d y z w f g h)

pub six : (o a b c d e f x1 x2 x3 x4 x5 x6 : List ℕ) → x1 ≡ o ++ a → x2 ≡ x1 ++ b → x3 ≡ x2 ++ c →
    x4 ≡ x3 ++ d → x5 ≡ x4 ++ e → x6 ≡ x5 ++ f → x6 ≡ o ++ (a ++ (b ++ (c ++ (d ++ (e ++ f)))))
six o a b c d e f x1 x2 x3 x4 x5 x6 h1 h2 h3 h4 h5 h6 =
    two o a (b ++ (c ++ (d ++ (e ++ f)))) x1 x6 h1 (two x1 b (c ++ (d ++ (e ++ f))) x2 x6 h2 (four x2 c d e f x3 x4 x5 x6 h3 h4 h5 h6))

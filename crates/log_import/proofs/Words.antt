-- Words that ask for a reset are two.
use Rattle.std.proofs.Common.{◌≡◌, ℕ, List, [], ◌∷◌, length, refl}
use Rattle.log_import.specs.Form.{AreWordsOf}

pub two_words : (k : ℕ) (words : List (List ℕ)) → AreWordsOf k words → length words ≡ 2
unfolding AreWordsOf
two_words k [] asks = absurd asks
two_words k (a ∷ []) asks = absurd asks
two_words k (a ∷ b ∷ []) asks = refl
two_words k (a ∷ b ∷ d ∷ words) asks = absurd asks

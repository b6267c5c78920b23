-- Lists of tokens whose places ascend.
use Rattle.std.proofs.Common.{ℕ, ◌<◌, ◌≤◌, List, [], ◌∷◌, ◌++◌, arith}
use Rattle.sql_tokens.specs.declared.listing.Token.{Token}
use Rattle.sql_tokens.specs.Listing.{AreInOrder}

pub AreInOrder-wider : (from to more : ℕ) (tokens : List Token) → AreInOrder from to tokens → to ≤ more → AreInOrder from more tokens
AreInOrder-wider from to more [] order h = omega arith
AreInOrder-wider from to more (t ∷ tokens) order h = (order.0, order.1, AreInOrder-wider t.end to more tokens order.2 h)

pub AreInOrder-push : (from to : ℕ) (tokens : List Token) (t : Token) → AreInOrder from to tokens → to ≤ t.start → t.start < t.end → AreInOrder from t.end (tokens ++ t ∷ [])
AreInOrder-push from to [] t order behind some = (omega arith, some, omega arith)
AreInOrder-push from to (u ∷ tokens) t order behind some = (order.0, order.1, AreInOrder-push u.end to tokens t order.2 behind some)

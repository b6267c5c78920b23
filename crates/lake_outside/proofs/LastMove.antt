-- The last of the moves, found one move after another.
use Rattle.std.proofs.Common.{ℕ, ◌≡◌, ◌+◌, ◌<◌, Bool, true, false, Option, None, Some, List, [], ◌∷◌, ◌++◌, refl, sym, ap, ◌∙◌, arith, cond, length, map, filter, take, append-nil, if◌then◌else◌, get_or}
use Rattle.std.proofs.lemmas.List.{map-append}
use Rattle.std.proofs.lemmas.List.Elements.{filter_more}
use Rattle.std.proofs.lemmas.Bool.Decides.{nat_tests}
use Rattle.lake_outside.specs.Plans.{is_before, later, last_of, point_of, is_move_before, last_before}
use Rattle.lake_outside.specs.declared.plans.Move.{Move}

-- two points of which neither is before the other are the same
same_point : (p q : ℕ × ℕ) → is_before p q ≡ false → is_before q p ≡ false → p ≡ q
same_point (a, b) (c, d) h k = grind (arith, nat_tests)

-- no two points are before each other
one_way : (p q : ℕ × ℕ) → is_before p q ≡ true → is_before q p ≡ true → ⊥
one_way (a, b) (c, d) h k = grind (arith, nat_tests)

-- what is before a point is before each that isn't
before_through : (p q r : ℕ × ℕ) → is_before q r ≡ true → is_before p r ≡ false → is_before q p ≡ true
before_through (a, b) (c, d) (e, f) h k = grind (arith, nat_tests)

-- the later of two points is the same from both sides
swap_two : (p q : ℕ × ℕ) (x y : Bool) → is_before p q ≡ x → is_before q p ≡ y
    → (if x then q else p) ≡ (if y then p else q)
swap_two p q true true h k = absurd (one_way p q h k)
swap_two p q true false h k = refl
swap_two p q false true h k = refl
swap_two p q false false h k = same_point p q h k

-- and so is the later of two points and a third
swap_three : (p q r : ℕ × ℕ) (x y : Bool) → is_before p r ≡ x → is_before q r ≡ y
    → later p (Some (if y then r else q)) ≡ later q (Some (if x then r else p))
swap_three p q r true true h k = rw (h, k) refl
swap_three p q r true false h k = rw (k, before_through q p r h k) refl
swap_three p q r false true h k = rw (h, before_through p q r k h) refl
swap_three p q r false false h k = swap_two p q (is_before p q) (is_before q p) refl refl

later_swap : (p q : ℕ × ℕ) (o : Option (ℕ × ℕ)) → later p (Some (later q o)) ≡ later q (Some (later p o))
later_swap p q None = swap_two p q (is_before p q) (is_before q p) refl refl
later_swap p q (Some r) = swap_three p q r (is_before p r) (is_before q r) refl refl

-- one more point
last_of-append : (ps : List (ℕ × ℕ)) (p : ℕ × ℕ) → last_of (ps ++ p ∷ []) ≡ Some (later p (last_of ps))
last_of-append [] p = refl
last_of-append (q ∷ qs) p = ap (λ o. Some (later q o)) (last_of-append qs p) ∙ ap Some (later_swap q p (last_of qs))

-- one more move, if it counts
one_more : (ms : List Move) (m : Move) (counts : Bool) → last_of (map point_of (ms ++ cond counts (m ∷ []) []))
    ≡ (if counts then Some (later (point_of m) (last_of (map point_of ms))) else last_of (map point_of ms))
one_more ms m true = ap last_of (map-append point_of ms (m ∷ [])) ∙ last_of-append (map point_of ms) (point_of m)
one_more ms m false = ap (λ l. last_of (map point_of l)) (append-nil ms)

of_more : (counts : Move → Bool) (moves : List Move) (i : ℕ) (d : Move) → i < length moves
    → last_of (map point_of (filter counts (take (i + 1) moves)))
    ≡ (if counts (get_or moves i d) then Some (later (point_of (get_or moves i d)) (last_of (map point_of (filter counts (take i moves))))) else last_of (map point_of (filter counts (take i moves))))
of_more counts moves i d h =
    ap (λ ms. last_of (map point_of ms)) (filter_more counts moves i d h)
    ∙ one_more (filter counts (take i moves)) (get_or moves i d) (counts (get_or moves i d))

-- a move that counts comes in
pub last_before-counted : (lose : Bool) (server : ℕ) (at : ℕ × ℕ) (moves : List Move) (i : ℕ) (d : Move) (b : Bool) → i < length moves
    → b ≡ is_move_before lose server at (get_or moves i d) → b ≡ true
    → last_before lose server at (take (i + 1) moves) ≡ Some (later (point_of (get_or moves i d)) (last_before lose server at (take i moves)))
last_before-counted lose server at moves i d b h e t =
    of_more (is_move_before lose server at) moves i d h ∙ rw (sym e ∙ t) refl

-- another one changes nothing
pub last_before-kept : (lose : Bool) (server : ℕ) (at : ℕ × ℕ) (moves : List Move) (i : ℕ) (d : Move) (b : Bool) → i < length moves
    → b ≡ is_move_before lose server at (get_or moves i d) → b ≡ false
    → last_before lose server at (take (i + 1) moves) ≡ last_before lose server at (take i moves)
last_before-kept lose server at moves i d b h e t =
    of_more (is_move_before lose server at) moves i d h ∙ rw (sym e ∙ t) refl

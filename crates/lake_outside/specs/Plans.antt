-- Where the moves of a plan put a server.
use Rattle.std.specs.Prelude.{◌==◌, ◌&&◌, ◌||◌, ℕ, Bool, true, false, not, nat_lt, if◌then◌else◌, List, [], ◌∷◌, Option, None, Some, filter, map}
use Rattle.std.specs.List.{list_any}
use Rattle.lake_outside.specs.declared.plans.Move.{Move}
use Rattle.lake_outside.specs.declared.plans.Standing.{Standing}
use Rattle.lake_outside.specs.declared.plans.Standing.TheVariants.{Here, Away, Falls}

-- a point is the place of a statement, and a wave of it

-- one point is before another: by the statement first, then by the wave
abbrev pub is_before : ℕ × ℕ → ℕ × ℕ → Bool
is_before p q = nat_lt p.0 q.0 || ((p.0 == q.0) && nat_lt p.1 q.1)

-- the later of a point and another, if there is another
abbrev pub later : ℕ × ℕ → Option (ℕ × ℕ) → ℕ × ℕ
later p None = p
later p (Some q) = if is_before p q then q else p

-- the last of the points, whatever their order in the list
abbrev pub last_of : List (ℕ × ℕ) → Option (ℕ × ℕ)
last_of [] = None
last_of (p ∷ ps) = Some (later p (last_of ps))

abbrev pub point_of : Move → ℕ × ℕ
point_of m = (m.place, m.wave)

-- a loss of the server, or a join, as `lose` says
abbrev pub is_move : Bool → ℕ → Move → Bool
is_move lose server m = (if lose then m.lose else not m.lose) && (m.server == server)

-- such a move before a point
abbrev pub is_move_before : Bool → ℕ → ℕ × ℕ → Move → Bool
is_move_before lose server at m = is_move lose server m && is_before (point_of m) at

-- such a move at a point
abbrev pub is_move_at : Bool → ℕ → ℕ × ℕ → Move → Bool
is_move_at lose server at m = is_move lose server m && (m.place == at.0) && (m.wave == at.1)

-- the server's last loss before a point, or its last join
abbrev pub last_before : Bool → ℕ → ℕ × ℕ → List Move → Option (ℕ × ℕ)
last_before lose server at moves = last_of (map point_of (filter (is_move_before lose server at) moves))

-- the server has a loss at this point, or a join
abbrev pub moves_at : Bool → ℕ → ℕ × ℕ → List Move → Bool
moves_at lose server at moves = list_any (is_move_at lose server at) moves

-- a server is away after its last loss, until it joins
abbrev pub is_away_after : Option (ℕ × ℕ) → Option (ℕ × ℕ) → Bool
is_away_after None join = false
is_away_after (Some loss) None = true
is_away_after (Some loss) (Some join) = is_before join loss

-- at a point a join puts it here, and a loss lets it fall if it was here before
abbrev pub standing_by : Bool → Bool → Bool → Standing
standing_by true falls away = Here
standing_by false true true = Away
standing_by false true false = Falls
standing_by false false true = Away
standing_by false false false = Here

-- where a server stands at a point. Where a loss and a join share a point, the join counts.
abbrev pub standing_of : List Move → ℕ → ℕ × ℕ → Standing
standing_of moves server at =
    standing_by (moves_at false server at moves) (moves_at true server at moves)
    (is_away_after (last_before true server at moves) (last_before false server at moves))

-- What a buffer keeps of what it held before, while more is appended.
use Rattle.std.proofs.Common.{◌≡◌, ◌≤◌, List, ◌++◌, length, take, drop, ap, sym, ◌∙◌, arith}
use Rattle.std.proofs.lemmas.List.{length-take, take-append-le, take-append-drop}

pub kept_append : {X : Type 0} (old new more : List X) → take (length old) new ≡ old → take (length old) (new ++ more) ≡ old
kept_append {X} old new more h =
    let within : length old ≤ length new = omega (arith, ap length h, length-take (length old) new) in
    take-append-le (length old) new more within ∙ h

pub kept_through : {X : Type 0} (old mid new : List X) → take (length old) mid ≡ old → take (length mid) new ≡ mid → take (length old) new ≡ old
kept_through {X} old mid new h k =
    let whole : mid ++ drop (length mid) new ≡ new = ap (λ (xs : List X). xs ++ drop (length mid) new) (sym k) ∙ take-append-drop (length mid) new in
    ap (λ (xs : List X). take (length old) xs) (sym whole) ∙ kept_append old mid (drop (length mid) new) h

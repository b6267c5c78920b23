-- The open transactions that a lake keeps, as its state has them.
use Rattle.std.proofs.Common.{◌≡◌, ◌≢◌, ℕ, zero, suc, ◌+◌, ◌<◌, ◌≤◌, ◌^◌, Bool, true, false, ◌&&◌, ◌||◌, not, List, [], ◌∷◌, Option, None, Some, map, filter, length, get_or, refl, sym, ap, ◌∙◌, subst, arith, nat_eq, nat_lt, cond, if◌then◌else◌}
use Rattle.std.specs.Prelude.{position, is_some, set, IfSome}
use Rattle.std.specs.List.{AllByRecursion, list_any, prefix_len, remove}
use Rattle.std.proofs.lemmas.Bool.{leb-false}
use Rattle.std.proofs.lemmas.List.Quantifiers.{position-Some}
use Rattle.lake_model.specs.State.{State, Transaction, after_stop, ended, opened_by, transaction, turned}
use Rattle.std.specs.Option.{option_map_or}
use Rattle.lake_core.specs.Lakes.{HasPart}
use Rattle.lake_core.specs.Opened.{opened}
use Rattle.lake_core.specs.declared.opened.OpenTxn.{OpenTxn}
use Rattle.sql_model.specs.Changes.{is_nil, is_unchanged}
use Rattle.sql_model.specs.Listing.{SameBag}
use Rattle.lake_core.specs.declared.transactions.KeptTransaction.{KeptTransaction}
use Rattle.lake_core.specs.declared.transactions.Room.{Room}
use Rattle.lake_core.specs.Rooms.{AreOpen, HaveOwnSessions, IsNoSession, IsOpen, RoomFits, IsRoomFor, KeepsRooms, LeavesRooms, OpenAt, entries_for, has_open, in_rooms, total, with_room}

pub same_number : (m n : ℕ) → nat_eq m n ≡ true → m ≡ n
same_number m n e = grind arith

pub number_self : (n : ℕ) → nat_eq n n ≡ true
number_self n = grind arith

pub number_sym : (m n : ℕ) → nat_eq m n ≡ nat_eq n m
number_sym m n = elim (nat_eq m n) as (λ b. nat_eq m n ≡ b → b ≡ nat_eq n m) [
  | true ↦ λ e. let is : m ≡ n = same_number m n e in sym (ap (nat_eq n) is ∙ number_self n)
  | false ↦ λ e. elim (nat_eq n m) as (λ b. nat_eq n m ≡ b → false ≡ b) [
    | true ↦ λ f. let is : n ≡ m = same_number n m f in let t : nat_eq m n ≡ true = ap (nat_eq m) is ∙ number_self m in absurd cc
    | false ↦ λ f. refl
  ] refl
] refl

-- the first of a session stands at the place
abbrev pub IsAt : ℕ → List KeptTransaction → ℕ → Type 0
IsAt session [] place = ⊥
IsAt session (r ∷ rs) zero = nat_eq r.session session ≡ true
IsAt session (r ∷ rs) (suc place) = (nat_eq r.session session ≡ false) × IsAt session rs place

from_places : (session : ℕ) (d : KeptTransaction) (rs : List KeptTransaction) (i : ℕ) → i < length rs → nat_eq (get_or rs i d).session session ≡ true → ((k : ℕ) → k < i → nat_eq (get_or rs k d).session session ≡ false) → IsAt session rs i
from_places session d [] i within passes fail = absurd (omega arith)
from_places session d (r ∷ rs) zero within passes fail = passes
from_places session d (r ∷ rs) (suc i) within passes fail = (fail 0 (omega arith), from_places session d rs i (omega arith) passes (λ k h. fail (suc k) (omega arith)))

behind_all : (session : ℕ) (rs : List KeptTransaction) → length rs ≤ prefix_len (λ (r : KeptTransaction). not (nat_eq r.session session)) rs → IsNoSession session rs
behind_all session [] h = tt
behind_all session (r ∷ rs) h =
    elim (nat_eq r.session session) as (λ b. nat_eq r.session session ≡ b → length (r ∷ rs) ≤ (if not b then 1 + prefix_len (λ (r : KeptTransaction). not (nat_eq r.session session)) rs else 0) → IsNoSession session (r ∷ rs)) [
      | true ↦ λ e k. absurd (omega (arith, k))
      | false ↦ λ e k. (e, behind_all session rs (omega (arith, k)))
    ] refl h

first_found : (session : ℕ) (rs : List KeptTransaction) (i : ℕ) → position (λ r. nat_eq r.session session) rs ≡ Some i → IsAt session rs i
first_found session [] i found = absurd cc
first_found session (r ∷ rs) i found = let at = position-Some (λ (r : KeptTransaction). nat_eq r.session session) (r ∷ rs) i r found in from_places session r (r ∷ rs) i at.0 at.1 at.2

-- what the code finds

pub found_at : (session : ℕ) (xs ys : List KeptTransaction) (found : Option ℕ) (place : ℕ) → ys ≡ xs → found ≡ position (λ r. nat_eq r.session session) ys → found ≡ Some place → IsAt session xs place
found_at session xs ys found place same is some =
    first_found session xs place (ap (λ (rs : List KeptTransaction). position (λ r. nat_eq r.session session) rs) (sym same) ∙ sym is ∙ some)

pub found_nowhere : (session : ℕ) (xs ys : List KeptTransaction) (found : Option ℕ) → ys ≡ xs → found ≡ position (λ r. nat_eq r.session session) ys → found ≡ None → IsNoSession session xs
found_nowhere session xs ys found same is none =
    let nothing : position (λ (r : KeptTransaction). nat_eq r.session session) xs ≡ None = ap (λ (rs : List KeptTransaction). position (λ r. nat_eq r.session session) rs) (sym same) ∙ sym is ∙ none in
    let place = prefix_len (λ (r : KeptTransaction). not (nat_eq r.session session)) xs in
    elim (nat_lt place (length xs)) as (λ b. nat_lt place (length xs) ≡ b → ◌≡◌ {A = Option ℕ} (cond b (Some place) None) None → IsNoSession session xs) [
      | true ↦ λ e k. absurd cc
      | false ↦ λ e k. behind_all session xs (omega (arith, leb-false (suc place) (length xs) e))
    ] refl nothing

pub at_within : (session : ℕ) (rs : List KeptTransaction) (place : ℕ) → IsAt session rs place → place < length rs
at_within session [] place at = absurd at
at_within session (r ∷ rs) zero at = omega arith
at_within session (r ∷ rs) (suc place) at = omega (arith, at_within session rs place at.1)

-- the session's transaction

pub open_at : (session : ℕ) (os : List (ℕ × Transaction)) (rs : List KeptTransaction) (place : ℕ) (r : KeptTransaction) → AreOpen os rs → IsAt session rs place → r ≡ get_or rs place r → OpenAt session os r
open_at session [] [] place r open_ at is = absurd at
open_at session [] (s ∷ rs) place r open_ at is = absurd open_
open_at session (o ∷ os) [] place r open_ at is = absurd open_
open_at session (o ∷ os) (s ∷ rs) zero r open_ at is =
    let mine : o.0 ≡ session = sym open_.0.session ∙ same_number s.session session at in
    let first : nat_eq o.0 session ≡ true = ap (λ (n : ℕ). nat_eq n session) mine ∙ number_self session in
    let P : ℕ × KeptTransaction → Type 0 = λ p. IsOpen (p.0, o.1) p.1 in
    record {
      transaction = o.1;
      opened = rw first refl;
      is = subst P (λ i. (mine i, sym is i)) open_.0;
    }
open_at session (o ∷ os) (s ∷ rs) (suc place) r open_ at is =
    let other : nat_eq o.0 session ≡ false = ap (λ (n : ℕ). nat_eq n session) (sym open_.0.session) ∙ at.0 in
    let rest = open_at session os rs place r open_.1 at.1 is in
    record { transaction = rest.transaction; opened = rw other rest.opened; is = rest.is }

pub open_none : (session : ℕ) (os : List (ℕ × Transaction)) (rs : List KeptTransaction) → AreOpen os rs → IsNoSession session rs → opened_by session os ≡ None
open_none session [] [] open_ none = refl
open_none session [] (s ∷ rs) open_ none = absurd open_
open_none session (o ∷ os) [] open_ none = absurd open_
open_none session (o ∷ os) (s ∷ rs) open_ none =
    let other : nat_eq o.0 session ≡ false = ap (λ (n : ℕ). nat_eq n session) (sym open_.0.session) ∙ none.0 in
    rw other (open_none session os rs open_.1 none.1)

-- without the session's transaction

pub removed_cons : (r : KeptTransaction) (rs : List KeptTransaction) (place : ℕ) → remove (r ∷ rs) (suc place) ≡ r ∷ remove rs place
removed_cons r rs place = refl

keep_all : (session : ℕ) (os : List (ℕ × Transaction)) (rs : List KeptTransaction) → AreOpen os rs → IsNoSession session rs → filter (λ o. not (nat_eq o.0 session)) os ≡ os
keep_all session [] [] open_ none = refl
keep_all session [] (s ∷ rs) open_ none = absurd open_
keep_all session (o ∷ os) [] open_ none = absurd open_
keep_all session (o ∷ os) (s ∷ rs) open_ none =
    let other : nat_eq o.0 session ≡ false = ap (λ (n : ℕ). nat_eq n session) (sym open_.0.session) ∙ none.0 in
    rw other (ap (λ (ps : List (ℕ × Transaction)). o ∷ ps) (keep_all session os rs open_.1 none.1))

pub no_open : (session : ℕ) (os : List (ℕ × Transaction)) (rs : List KeptTransaction) → AreOpen os rs → IsNoSession session rs → AreOpen (filter (λ o. not (nat_eq o.0 session)) os) rs
no_open session os rs open_ none = let P : List (ℕ × Transaction) → Type 0 = λ ps. AreOpen ps rs in subst P (sym (keep_all session os rs open_ none)) open_

pub without_open : (session : ℕ) (os : List (ℕ × Transaction)) (rs : List KeptTransaction) (place : ℕ) → AreOpen os rs → HaveOwnSessions rs → IsAt session rs place → AreOpen (filter (λ o. not (nat_eq o.0 session)) os) (remove rs place)
without_open session [] [] place open_ own at = absurd at
without_open session [] (s ∷ rs) place open_ own at = absurd open_
without_open session (o ∷ os) [] place open_ own at = absurd open_
without_open session (o ∷ os) (s ∷ rs) zero open_ own at =
    let mine : nat_eq o.0 session ≡ true = ap (λ (n : ℕ). nat_eq n session) (sym open_.0.session) ∙ at in
    let P : ℕ → Type 0 = λ n. IsNoSession n rs in
    rw mine (no_open session os rs open_.1 (subst P (same_number s.session session at) own.0))
without_open session (o ∷ os) (s ∷ rs) (suc place) open_ own at =
    let other : nat_eq o.0 session ≡ false = ap (λ (n : ℕ). nat_eq n session) (sym open_.0.session) ∙ at.0 in
    rw other (open_.0, without_open session os rs place open_.1 own.1 at.1)

-- what is left when one is taken out

pub all_left : (P : KeptTransaction → Type 0) (rs : List KeptTransaction) (place : ℕ) → AllByRecursion P rs → AllByRecursion P (remove rs place)
all_left P [] zero all = tt
all_left P [] (suc place) all = tt
all_left P (r ∷ rs) zero all = all.1
all_left P (r ∷ rs) (suc place) all = (all.0, all_left P rs place all.1)

pub all_at : (P : KeptTransaction → Type 0) (session : ℕ) (rs : List KeptTransaction) (place : ℕ) (r : KeptTransaction) → AllByRecursion P rs → IsAt session rs place → r ≡ get_or rs place r → P r
all_at P session [] place r all at is = absurd at
all_at P session (s ∷ rs) zero r all at is = subst P (sym is) all.0
all_at P session (s ∷ rs) (suc place) r all at is = all_at P session rs place r all.1 at.1 is

pub own_left : (rs : List KeptTransaction) (place : ℕ) → HaveOwnSessions rs → HaveOwnSessions (remove rs place)
own_left [] zero own = tt
own_left [] (suc place) own = tt
own_left (r ∷ rs) zero own = own.1
own_left (r ∷ rs) (suc place) own = (all_left (λ (s : KeptTransaction). nat_eq s.session r.session ≡ false) rs place own.0, own_left rs place own.1)

pub none_left : (session : ℕ) (rs : List KeptTransaction) (place : ℕ) → HaveOwnSessions rs → IsAt session rs place → IsNoSession session (remove rs place)
none_left session [] place own at = absurd at
none_left session (r ∷ rs) zero own at = let P : ℕ → Type 0 = λ n. IsNoSession n rs in subst P (same_number r.session session at) own.0
none_left session (r ∷ rs) (suc place) own at = (at.0, none_left session rs place own.1 at.1)

pub total_left : (g : KeptTransaction → ℕ) (session : ℕ) (rs : List KeptTransaction) (place : ℕ) (r : KeptTransaction) → IsAt session rs place → r ≡ get_or rs place r → total g rs ≡ g r + total g (remove rs place)
total_left g session [] place r at is = absurd at
total_left g session (s ∷ rs) zero r at is = ap (λ (t : KeptTransaction). g t + total g rs) (sym is)
total_left g session (s ∷ rs) (suc place) r at is = omega (arith, total_left g session rs place r at.1 is)

-- the rooms that are left

rooms_step : (session : ℕ) (r : KeptTransaction) (rs : List KeptTransaction) → nat_eq r.session session ≡ false → in_rooms session (r ∷ rs) ≡ in_rooms session rs
rooms_step session r rs other =
    elim (is_some r.room) as (λ b. list_any (λ n. nat_eq n session) (map (λ (s : KeptTransaction). s.session) (cond b (r ∷ filter (λ (s : KeptTransaction). is_some s.room) rs) (filter (λ (s : KeptTransaction). is_some s.room) rs))) ≡ in_rooms session rs) [
      | true ↦ rw other refl
      | false ↦ refl
    ]

pub no_room : (session : ℕ) (rs : List KeptTransaction) → IsNoSession session rs → in_rooms session rs ≡ false
no_room session [] none = refl
no_room session (r ∷ rs) none = rooms_step session r rs none.0 ∙ no_room session rs none.1

pub apart : (m n : ℕ) → (m ≡ n → ⊥) → nat_eq m n ≡ false
apart m n differ = elim (nat_eq m n) as (λ b. nat_eq m n ≡ b → b ≡ false) [
  | true ↦ λ e. absurd (differ (same_number m n e))
  | false ↦ λ e. refl
] refl

pub other_rooms : (session other : ℕ) (rs : List KeptTransaction) (place : ℕ) → IsAt session rs place → other ≢ session → in_rooms other (remove rs place) ≡ in_rooms other rs
other_rooms session other [] place at differ = absurd at
other_rooms session other (r ∷ rs) zero at differ =
    let not_mine : nat_eq r.session other ≡ false = apart r.session other (λ e. differ (sym e ∙ same_number r.session session at)) in
    sym (rooms_step other r rs not_mine)
other_rooms session other (r ∷ rs) (suc place) at differ =
    let rest = other_rooms session other rs place at.1 differ in
    elim (is_some r.room) as (λ b. list_any (λ n. nat_eq n other) (map (λ (s : KeptTransaction). s.session) (cond b (r ∷ filter (λ (s : KeptTransaction). is_some s.room) (remove rs place)) (filter (λ (s : KeptTransaction). is_some s.room) (remove rs place)))) ≡
    list_any (λ n. nat_eq n other) (map (λ (s : KeptTransaction). s.session) (cond b (r ∷ filter (λ (s : KeptTransaction). is_some s.room) rs) (filter (λ (s : KeptTransaction). is_some s.room) rs)))) [
      | true ↦ ap (λ (b : Bool). nat_eq r.session other || b) rest
      | false ↦ rest
    ]

-- a transaction for which no room is reserved is put first

rooms_first : (session : ℕ) (r : KeptTransaction) (rs : List KeptTransaction) → r.room ≡ None → in_rooms session (r ∷ rs) ≡ in_rooms session rs
rooms_first session r rs none =
    let not_there : is_some r.room ≡ false = ap is_some none in
    rw not_there refl

-- whether a session has a transaction

none_open : (session : ℕ) (rs : List KeptTransaction) → IsNoSession session rs → has_open session rs ≡ false
none_open session [] none = refl
none_open session (r ∷ rs) none = ap (λ (b : Bool). b || has_open session rs) none.0 ∙ none_open session rs none.1

pub open_is : (session : ℕ) (st : State) (rs : List KeptTransaction) → AreOpen st.running rs → is_some (transaction st session) ≡ has_open session rs
open_is session st rs open_ = each st.running rs open_
  where
    each : (os : List (ℕ × Transaction)) (rs : List KeptTransaction) → AreOpen os rs → is_some (opened_by session os) ≡ has_open session rs
    each [] [] open_ = refl
    each [] (r ∷ rs) open_ = absurd open_
    each (o ∷ os) [] open_ = absurd open_
    each (o ∷ os) (r ∷ rs) open_ =
        (elim (nat_eq o.0 session) as (λ b. is_some (if b then Some o.1 else opened_by session os) ≡ (b || has_open session rs)) [
          | true ↦ refl
          | false ↦ each os rs open_.1
        ]) ∙ ap (λ (n : ℕ). nat_eq n session || has_open session rs) (sym open_.0.session)

-- what a change of the transactions leaves reserved

never : (b : Bool) → (b && false) ≡ false
never true = refl
never false = refl

no_rooms : (session : ℕ) (old new : List KeptTransaction) → IsNoSession session new → in_rooms session new ≡ (in_rooms session old && has_open session new)
no_rooms session old new none =
    no_room session new none ∙ sym (never (in_rooms session old)) ∙ ap (λ (b : Bool). in_rooms session old && b) (sym (none_open session new none))

pub taken_rooms : (session : ℕ) (rs : List KeptTransaction) (place : ℕ) (r : KeptTransaction) → HaveOwnSessions rs → IsAt session rs place → r ≡ get_or rs place r → LeavesRooms session rs (remove rs place)
taken_rooms session rs place r own at is = record {
  keeps = record {
    own = own_left rs place own;
    kept = no_rooms session rs (remove rs place) (none_left session rs place own at);
    others = λ other differ. other_rooms session other rs place at differ;
  };
  fit = all_left RoomFits rs place;
  less = λ g weight. omega (arith, total_left g session rs place r at is);
}

pub same_rooms : (session : ℕ) (rs : List KeptTransaction) → HaveOwnSessions rs → IsNoSession session rs → LeavesRooms session rs rs
same_rooms session rs own none = record {
  keeps = record { own = own; kept = no_rooms session rs rs none; others = λ other differ. refl };
  fit = λ all. all;
  less = λ g weight. omega arith;
}

-- a session without a transaction begins one
pub begun_rooms : (session : ℕ) (rs : List KeptTransaction) (r : KeptTransaction) → HaveOwnSessions rs → IsNoSession session rs → r.session ≡ session → r.room ≡ None → LeavesRooms session rs (r ∷ rs)
begun_rooms session rs r own none mine unready =
    let P : ℕ → Type 0 = λ n. IsNoSession n rs in
    let Q : Option Room → Type 0 = λ room. IfSome room (IsRoomFor r.removed.items) in
    let nothing = no_room session rs none in
    record {
      keeps = record {
        own = (subst P (sym mine) none, own);
        kept = rooms_first session r rs unready ∙ nothing ∙ ap (λ (b : Bool). b && has_open session (r ∷ rs)) (sym nothing);
        others = λ other differ. rooms_first other r rs unready;
      };
      fit = λ all. (subst Q (sym unready) tt, all);
      less = λ g weight. omega (arith, weight.none r unready);
    }

-- where room is reserved for a session

pub room_at : (session : ℕ) (rs : List KeptTransaction) (place : ℕ) (r : KeptTransaction) → HaveOwnSessions rs → IsAt session rs place → r ≡ get_or rs place r → in_rooms session rs ≡ is_some r.room
room_at session [] place r own at is = absurd at
room_at session (s ∷ rs) zero r own at is =
    let P : ℕ → Type 0 = λ n. IsNoSession n rs in
    let none : in_rooms session rs ≡ false = no_room session rs (subst P (same_number s.session session at) own.0) in
    (elim (is_some s.room) as (λ b. list_any (λ n. nat_eq n session) (map (λ (t : KeptTransaction). t.session) (cond b (s ∷ filter (λ (t : KeptTransaction). is_some t.room) rs) (filter (λ (t : KeptTransaction). is_some t.room) rs))) ≡ b) [
      | true ↦ ap (λ (b : Bool). b || in_rooms session rs) at
      | false ↦ none
    ]) ∙ ap (λ (t : KeptTransaction). is_some t.room) (sym is)
room_at session (s ∷ rs) (suc place) r own at is = rooms_step session s rs at.0 ∙ room_at session rs place r own.1 at.1 is

session_at : (session : ℕ) (rs : List KeptTransaction) (place : ℕ) (r : KeptTransaction) → IsAt session rs place → r ≡ get_or rs place r → nat_eq r.session session ≡ true
session_at session [] place r at is = absurd at
session_at session (s ∷ rs) zero r at is = ap (λ (t : KeptTransaction). nat_eq t.session session) is ∙ at
session_at session (s ∷ rs) (suc place) r at is = session_at session rs place r at.1 is

pub fits_at : (session : ℕ) (rs : List KeptTransaction) (place : ℕ) (r : KeptTransaction) → IsAt session rs place → r ≡ get_or rs place r → AllByRecursion RoomFits rs → RoomFits r
fits_at session [] place r at is all = absurd at
fits_at session (s ∷ rs) zero r at is all = subst RoomFits (sym is) all.0
fits_at session (s ∷ rs) (suc place) r at is all = fits_at session rs place r at.1 is all.1

mine_first : (session : ℕ) (r : KeptTransaction) (rs : List KeptTransaction) → nat_eq r.session session ≡ true → in_rooms session (r ∷ rs) ≡ (is_some r.room || in_rooms session rs)
mine_first session r rs mine =
    elim (is_some r.room) as (λ b. list_any (λ n. nat_eq n session) (map (λ (t : KeptTransaction). t.session) (cond b (r ∷ filter (λ (t : KeptTransaction). is_some t.room) rs) (filter (λ (t : KeptTransaction). is_some t.room) rs))) ≡ (b || in_rooms session rs)) [
      | true ↦ ap (λ (b : Bool). b || in_rooms session rs) mine
      | false ↦ refl
    ]

kept_if : (a b c : Bool) → b ≡ false → c ≡ true → (a || b) ≡ (a && c)
kept_if true b c none there = sym there
kept_if false b c none there = none

-- the session's transaction goes on, with room if it had room
pub turned_rooms : (session : ℕ) (rs : List KeptTransaction) (place : ℕ) (r s : KeptTransaction) → HaveOwnSessions rs → IsAt session rs place → r ≡ get_or rs place r → s.session ≡ r.session → is_some s.room ≡ is_some r.room → KeepsRooms session rs (s ∷ remove rs place)
turned_rooms session rs place r s own at is same kept =
    let left = remove rs place in
    let mine : nat_eq s.session session ≡ true = ap (λ (n : ℕ). nat_eq n session) same ∙ session_at session rs place r at is in
    let none = none_left session rs place own at in
    let P : ℕ → Type 0 = λ m. IsNoSession m left in
    record {
      own = (subst P (sym (same_number s.session session mine)) none, own_left rs place own);
      kept = mine_first session s left mine ∙ kept_if (is_some s.room) (in_rooms session left) (has_open session (s ∷ left)) (no_room session left none) (ap (λ (b : Bool). b || has_open session left) mine)
          ∙ ap (λ (b : Bool). b && has_open session (s ∷ left)) (kept ∙ sym (room_at session rs place r own at is));
      others = λ other differ. rooms_step other s left (apart s.session other (λ e. differ (sym e ∙ same_number s.session session mine))) ∙ other_rooms session other rs place at differ;
    }

-- the session's transaction has other parts
pub part_rooms : (session : ℕ) (rs : List KeptTransaction) (place : ℕ) (r : KeptTransaction) (n : ℕ) → HaveOwnSessions rs → IsAt session rs place → r ≡ get_or rs place r → LeavesRooms session rs (record r { parts = n } ∷ remove rs place)
part_rooms session rs place r n own at is = record {
  keeps = turned_rooms session rs place r (record r { parts = n }) own at is refl refl;
  fit = λ all. (fits_at session rs place r at is all, all_left RoomFits rs place all);
  less = λ g weight. omega (arith, total_left g session rs place r at is, weight.parts r n);
}

part_open : (o : ℕ × Transaction) (r : KeptTransaction) → IsOpen o r → IsOpen (o.0, record o.1 { parts = o.1.parts + 1 }) (record r { parts = r.parts + 1 })
part_open o r is = record {
  session = is.session;
  explicit = is.explicit;
  number = is.number;
  snapshot = is.snapshot;
  parts = ap (λ (n : ℕ). n + 1) is.parts;
  removed = is.removed;
  ascending = is.ascending;
  added = is.added;
}

-- a refusal of the session's transaction

pub stop_none : (session : ℕ) (st : State) (rs : List KeptTransaction) → AreOpen st.running rs → IsNoSession session rs → AreOpen (after_stop session false st).running rs
stop_none session st rs open_ none =
    let nothing : transaction st session ≡ None = open_none session st.running rs open_ none in
    rw nothing open_

pub stop_single : (session : ℕ) (st : State) (rs : List KeptTransaction) (place : ℕ) (r : KeptTransaction) → AreOpen st.running rs → HaveOwnSessions rs → IsAt session rs place → r ≡ get_or rs place r → r.explicit ≡ false →
    AreOpen (after_stop session false st).running (remove rs place)
stop_single session st rs place r open_ own at is single =
    let found = open_at session st.running rs place r open_ at is in
    let opened : transaction st session ≡ Some found.transaction = found.opened in
    let alone : found.transaction.explicit ≡ false = sym found.is.explicit ∙ single in
    rw (opened, alone) (without_open session st.running rs place open_ own at)

chosen : (P : State → Type 0) (b : Bool) (x y : State) → b ≡ true → P x → P (if b && not false then x else y)
chosen P b x y e p = subst (λ (c : Bool). P (if c && not false then x else y)) (sym e) p

pub stop_explicit : (session : ℕ) (st : State) (rs : List KeptTransaction) (place : ℕ) (r : KeptTransaction) → AreOpen st.running rs → HaveOwnSessions rs → IsAt session rs place → r ≡ get_or rs place r → r.explicit ≡ true →
    AreOpen (after_stop session false st).running (record r { parts = r.parts + 1 } ∷ remove rs place)
stop_explicit session st rs place r open_ own at is explicit =
    let found = open_at session st.running rs place r open_ at is in
    let opened : transaction st session ≡ Some found.transaction = found.opened in
    let stays : found.transaction.explicit ≡ true = sym found.is.explicit ∙ explicit in
    let t = found.transaction in
    rw opened (chosen (λ s'. AreOpen s'.running (record r { parts = r.parts + 1 } ∷ remove rs place)) t.explicit (turned session (record t { parts = t.parts + 1 }) st) (ended session st) stays
    (part_open (session, t) r found.is, without_open session st.running rs place open_ own at))

pub part_fits : (session : ℕ) (st : State) (rs : List KeptTransaction) (place : ℕ) (r : KeptTransaction) → AreOpen st.running rs → IsAt session rs place → r ≡ get_or rs place r → HasPart st session → r.parts + 1 < 2 ^ 32
part_fits session st rs place r open_ at is fits =
    let found = open_at session st.running rs place r open_ at is in
    let P : Option Transaction → Type 0 = λ o. option_map_or (λ t. t.parts + 1) o 1 < 2 ^ 32 in
    let some : found.transaction.parts + 1 < 2 ^ 32 = subst P found.opened fits in
    omega (arith, some, found.is.parts)

-- two names of what stands at a place
pub at_once : (session : ℕ) (rs : List KeptTransaction) (place : ℕ) (r s : KeptTransaction) → IsAt session rs place → r ≡ get_or rs place r → s ≡ get_or rs place s → r ≡ s
at_once session [] place r s at is also = absurd at
at_once session (x ∷ rs) zero r s at is also = is ∙ sym also
at_once session (x ∷ rs) (suc place) r s at is also = at_once session rs place r s at.1 is also

pub room_there : (session : ℕ) (rs : List KeptTransaction) (place : ℕ) (r : KeptTransaction) → HaveOwnSessions rs → IsAt session rs place → r ≡ get_or rs place r → in_rooms session rs ≡ true → is_some r.room ≡ true
room_there session rs place r own at is reserved = sym (room_at session rs place r own at is) ∙ reserved

pub entry_freed : (session : ℕ) (rs : List KeptTransaction) (place : ℕ) (r : KeptTransaction) → HaveOwnSessions rs → IsAt session rs place → r ≡ get_or rs place r → in_rooms session rs ≡ true → total entries_for (remove rs place) + 1 ≤ total entries_for rs
entry_freed session rs place r own at is reserved =
    let there = room_there session rs place r own at is reserved in
    let one : entries_for r ≡ 1 = ap (λ (b : Bool). if b then 1 else 0) there in
    omega (arith, total_left entries_for session rs place r at is, one)

pub some_room : (session : ℕ) (rs : List KeptTransaction) → in_rooms session rs ≡ true → 1 ≤ total entries_for rs
some_room session [] reserved = absurd cc
some_room session (r ∷ rs) reserved =
    elim (is_some r.room) as (λ b. list_any (λ n. nat_eq n session) (map (λ (t : KeptTransaction). t.session) (cond b (r ∷ filter (λ (t : KeptTransaction). is_some t.room) rs) (filter (λ (t : KeptTransaction). is_some t.room) rs))) ≡ true → 1 ≤ (if b then 1 else 0) + total entries_for rs) [
      | true ↦ λ e. omega arith
      | false ↦ λ e. omega (arith, some_room session rs e)
    ] reserved

-- the same bags are both empty or not
pub nil_same : {X : Type 0} (xs ys : List X) → SameBag xs ys → is_nil xs ≡ is_nil ys
nil_same [] [] same = refl
nil_same [] (y ∷ ys) same = absurd (omega (arith, same (λ _. 1)))
nil_same (x ∷ xs) [] same = absurd (omega (arith, same (λ _. 1)))
nil_same (x ∷ xs) (y ∷ ys) same = refl

pub unchanged_same : (o : ℕ × Transaction) (r : KeptTransaction) → IsOpen o r → (is_nil r.removed.items && is_nil r.added.items) ≡ is_unchanged o.1.pending
unchanged_same o r is =
    let removed : is_nil r.removed.items ≡ is_nil o.1.pending.removed = nil_same r.removed.items o.1.pending.removed is.removed in
    let added : is_nil r.added.items ≡ is_nil o.1.pending.added = ap is_nil is.added in
    ap (λ (b : Bool). b && is_nil r.added.items) removed ∙ ap (λ (b : Bool). is_nil o.1.pending.removed && b) added

pub opened_is : (o : ℕ × Transaction) (r : KeptTransaction) (unchanged : Bool) → IsOpen o r → unchanged ≡ (is_nil r.removed.items && is_nil r.added.items) →
    ◌≡◌ {A = OpenTxn} (record { explicit = r.explicit; txn = r.number; snapshot = r.snapshot; parts = r.parts; changed = not unchanged }) (opened o.1)
opened_is o r unchanged is none =
    let changed : not unchanged ≡ not (is_unchanged o.1.pending) = ap not (none ∙ unchanged_same o r is) in
    λ i. record { explicit = is.explicit i; txn = is.number i; snapshot = is.snapshot i; parts = is.parts i; changed = changed i }

-- where room is reserved, the session has a transaction
pub reserved_found : (session : ℕ) (rs ys : List KeptTransaction) (found : Option ℕ) → ys ≡ rs → found ≡ position (λ r. nat_eq r.session session) ys → in_rooms session rs ≡ true → is_some found ≡ true
reserved_found session rs ys None same is reserved = let none = no_room session rs (found_nowhere session rs ys None same is refl) in absurd cc
reserved_found session rs ys (Some place) same is reserved = refl

-- room that is kept

pub kept_at : (room : Room) (rs : List KeptTransaction) (place : ℕ) (r s : KeptTransaction) → r ≡ get_or rs place r → place < length rs → s ≡ record r { room = Some room } → set rs place s ≡ with_room room rs place
kept_at room [] place r s is within new = absurd (omega arith)
kept_at room (x ∷ rs) zero r s is within new = λ i. (new ∙ ap (λ (t : KeptTransaction). record t { room = Some room }) is) i ∷ rs
kept_at room (x ∷ rs) (suc place) r s is within new = ap (λ (ts : List KeptTransaction). x ∷ ts) (kept_at room rs place r s is (omega arith) new)

kept_open : (o : ℕ × Transaction) (r : KeptTransaction) (room : Room) → IsOpen o r → IsOpen o (record r { room = Some room })
kept_open o r room is = record { session = is.session; explicit = is.explicit; number = is.number; snapshot = is.snapshot; parts = is.parts; removed = is.removed; ascending = is.ascending; added = is.added }

pub open_kept : (room : Room) (os : List (ℕ × Transaction)) (rs : List KeptTransaction) (place : ℕ) → AreOpen os rs → AreOpen os (with_room room rs place)
open_kept room [] [] place open_ = open_
open_kept room [] (r ∷ rs) place open_ = absurd open_
open_kept room (o ∷ os) [] place open_ = open_
open_kept room (o ∷ os) (r ∷ rs) zero open_ = (kept_open o r room open_.0, open_.1)
open_kept room (o ∷ os) (r ∷ rs) (suc place) open_ = (open_.0, open_kept room os rs place open_.1)

none_kept : (session : ℕ) (room : Room) (rs : List KeptTransaction) (place : ℕ) → IsNoSession session rs → IsNoSession session (with_room room rs place)
none_kept session room [] place none = none
none_kept session room (r ∷ rs) zero none = none
none_kept session room (r ∷ rs) (suc place) none = (none.0, none_kept session room rs place none.1)

pub own_room : (room : Room) (rs : List KeptTransaction) (place : ℕ) → HaveOwnSessions rs → HaveOwnSessions (with_room room rs place)
own_room room [] place own = own
own_room room (r ∷ rs) zero own = own
own_room room (r ∷ rs) (suc place) own = (none_kept r.session room rs place own.0, own_room room rs place own.1)

pub length_kept : (room : Room) (rs : List KeptTransaction) (place : ℕ) → length (with_room room rs place) ≡ length rs
length_kept room [] place = refl
length_kept room (r ∷ rs) zero = refl
length_kept room (r ∷ rs) (suc place) = ap suc (length_kept room rs place)

pub fits_kept : (room : Room) (rs : List KeptTransaction) (place : ℕ) (r : KeptTransaction) → r ≡ get_or rs place r → IsRoomFor r.removed.items room → AllByRecursion RoomFits rs → AllByRecursion RoomFits (with_room room rs place)
fits_kept room [] place r is made all = all
fits_kept room (x ∷ rs) zero r is made all = let P : KeptTransaction → Type 0 = λ t. IsRoomFor t.removed.items room in (subst P is made, all.1)
fits_kept room (x ∷ rs) (suc place) r is made all = (all.0, fits_kept room rs place r is made all.1)

pub total_kept : (g : KeptTransaction → ℕ) (room : Room) (rs : List KeptTransaction) (place : ℕ) (r : KeptTransaction) → r ≡ get_or rs place r → total g (with_room room rs place) ≤ total g rs + g (record r { room = Some room })
total_kept g room [] place r is = omega arith
total_kept g room (x ∷ rs) zero r is = omega (arith, ap (λ (t : KeptTransaction). g (record t { room = Some room })) is)
total_kept g room (x ∷ rs) (suc place) r is = omega (arith, total_kept g room rs place r is)

pub mine_kept : (session : ℕ) (room : Room) (rs : List KeptTransaction) (place : ℕ) → IsAt session rs place → in_rooms session (with_room room rs place) ≡ true
mine_kept session room [] place at = absurd at
mine_kept session room (r ∷ rs) zero at = rw at refl
mine_kept session room (r ∷ rs) (suc place) at = rooms_step session r (with_room room rs place) at.0 ∙ mine_kept session room rs place at.1

pub others_kept : (session other : ℕ) (room : Room) (rs : List KeptTransaction) (place : ℕ) → IsAt session rs place → other ≢ session → in_rooms other (with_room room rs place) ≡ in_rooms other rs
others_kept session other room [] place at differ = absurd at
others_kept session other room (r ∷ rs) zero at differ =
    let not_mine : nat_eq r.session other ≡ false = apart r.session other (λ e. differ (sym e ∙ same_number r.session session at)) in
    rooms_step other (record r { room = Some room }) rs not_mine ∙ sym (rooms_step other r rs not_mine)
others_kept session other room (r ∷ rs) (suc place) at differ =
    let rest = others_kept session other room rs place at.1 differ in
    elim (is_some r.room) as (λ b. list_any (λ n. nat_eq n other) (map (λ (s : KeptTransaction). s.session) (cond b (r ∷ filter (λ (s : KeptTransaction). is_some s.room) (with_room room rs place)) (filter (λ (s : KeptTransaction). is_some s.room) (with_room room rs place)))) ≡
    list_any (λ n. nat_eq n other) (map (λ (s : KeptTransaction). s.session) (cond b (r ∷ filter (λ (s : KeptTransaction). is_some s.room) rs) (filter (λ (s : KeptTransaction). is_some s.room) rs)))) [
      | true ↦ ap (λ (b : Bool). nat_eq r.session other || b) rest
      | false ↦ rest
    ]

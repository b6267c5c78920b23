use Rattle.std.proofs.Common.{◌≡◌, ◌+◌, ◌∙◌, ◌++◌, ◌∷◌, [], ap, sym, refl, subst, arith, List, ℕ, true, false}
use Rattle.std.specs.Prelude.{IsNone}
use Rattle.lake_values.specs.Schemas.{TableColumns}
use Rattle.lake_model.specs.declared.entries.Entry.{Entry}
use Rattle.lake_model.specs.declared.entries.Fact.TheVariants as fact
use Rattle.lake_model.specs.State.{last, newest, state, transaction}
use Rattle.sql_model.specs.Versions.{Table, has_table}
use Rattle.lake_values.specs.Texts.{same_text}
use Rattle.table_history.specs.Histories.{GrowsBy, has_spare_rows, newest_of}
use Rattle.lake_core.specs.declared.transactions.KeptTransaction.{KeptTransaction}
use Rattle.lake_core.specs.Consistency.{chronicle_of}
use Rattle.lake_core.specs.Lakes.{Lake, state_of}
use Rattle.lake_core.specs.Rooms.{table_rows_for, total}
use Rattle.lake_core.proofs.ConsistencyLemmas.{adds_at, adds_same, created_consistent, created_rooms, few_rooms, consistent_at, last_same, outside_rooms, unchanged_consistent}
use Rattle.lake_core.proofs.lakes.LakeState.make.Goals as goal

pub invariant_of-self-in_err-create : goal.invariant_of-self-in_err-create
invariant_of-self-in_err-create g c =
    let l = c.self.inside in
    unchanged_consistent l.chronicle.entries c.room_beside.new.chronicle.entries l.history c.create.new.self l.running.items l.catalog l.chronicle.spare c.room_beside.new.chronicle.spare l.last_number
    c.room_beside.ensures.same c.in_err-create.ensures.err c.room_beside.ensures.keeps c.self.invariant

pub invariant_of-self-2 : goal.invariant_of-self-2
invariant_of-self-2 g c =
    let l = c.self.inside in
    let rs = l.running.items in
    let consistent = c.self.invariant in
    let table = c.args.table.now in
    let t : Table = record { name = table; schema = c.args.schema.now; rows = [] } in
    let seq = c.last-seq.result + 1 in
    let st = state (chronicle_of l.chronicle.entries) in
    let P : Lake → Type 0 = λ lake. IsNone (transaction (state_of lake) c.args.who.session) in
    let outside = subst P (sym c.self.view_is) c.requires.outside in
    let absent : has_table table (newest st).tables ≡ false = ap (λ (lake : Lake). has_table table (newest (state_of lake)).tables) c.self.view_is ∙ c.requires.absent in
    let is : seq ≡ last st + 1 = ap (λ (n : ℕ). n + 1) (c.last-seq.ensures.last ∙ last_same st l.history consistent.stands.history) in
    let G : List ℕ × TableColumns → Type 0 = λ p. GrowsBy l.history c.create.new.self (newest_of l.history ++ record { name = p.0; schema = p.1; rows = [] } ∷ []) in
    let made = c.in_ok-name.ensures in
    let grown = subst G (λ i. (made.name i, made.schema i)) c.in_ok-create.ensures.made in
    let rows_are = c.in_ok-rows.ensures.rows ∙ ap (λ (os : List KeptTransaction). total (table_rows_for table) os) c.as_slice.ensures.value in
    let R : List ℕ × ℕ → Type 0 = λ p. has_spare_rows c.create.new.self.spares p.0 p.1 ≡ true in
    let own = subst R (λ i. (made.name i, rows_are i)) c.in_ok-create.ensures.room in
    let O : List ℕ → Type 0 = λ n. (other : List ℕ) (more : ℕ) → same_text n other ≡ false → has_spare_rows l.history.spares other more ≡ true → has_spare_rows c.create.new.self.spares other more ≡ true in
    let rooms = created_rooms table rs l.history c.create.new.self consistent.stands.rooms.table_rows own (subst O made.name c.in_ok-create.ensures.others) in
    consistent_at c.args.who (fact.Created table c.args.schema.now seq) l.chronicle.entries c.push.new.self.entries c.in_ok-name.field-0.did
    (c.push.ensures.entries ∙ ap (λ (es : List Entry). es ++ c.in_ok-name.field-0.did ∷ []) c.in_ok-rows.ensures.same) made.entry _ _ _ _ _
    (created_consistent c.args.who t seq (chronicle_of l.chronicle.entries) l.history c.create.new.self rs l.catalog l.chronicle.spare c.push.new.self.spare l.last_number consistent outside absent is refl grown rooms (omega (arith, few_rooms rs, c.push.ensures.room, c.in_ok-rows.ensures.room)))

pub returns-clause-entry : goal.returns-clause-entry
returns-clause-entry g c =
    let l = c.self.inside in
    let rs = l.running.items in
    let consistent = c.self.invariant in
    let st = state (chronicle_of l.chronicle.entries) in
    let P : Lake → Type 0 = λ lake. IsNone (transaction (state_of lake) c.args.who.session) in
    let outside = subst P (sym c.self.view_is) c.requires.outside in
    let is : c.last-seq.result + 1 ≡ last (state_of c.args.self.now) + 1 =
    ap (λ (n : ℕ). n + 1) (c.last-seq.ensures.last ∙ last_same st l.history consistent.stands.history) ∙ ap (λ (lake : Lake). last (state_of lake) + 1) c.self.view_is in
    adds_same (ap (λ (n : ℕ). fact.Created c.args.table.now c.args.schema.now n) is)
    (adds_at c.args.who (fact.Created c.args.table.now c.args.schema.now (c.last-seq.result + 1)) l.chronicle.entries c.push.new.self.entries c.in_ok-name.field-0.did
    (c.push.ensures.entries ∙ ap (λ (es : List Entry). es ++ c.in_ok-name.field-0.did ∷ []) c.in_ok-rows.ensures.same) c.in_ok-name.ensures.entry
    rs rs (outside_rooms c.args.who.session st rs consistent.stands.open_ones consistent.stands.own_sessions outside).keeps (invariant_of-self-2 g c) c.args.self.now c.self.view_is)

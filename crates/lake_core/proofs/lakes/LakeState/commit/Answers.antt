use Rattle.std.proofs.Common.{◌≡◌, ◌+◌, ◌∙◌, [], ap, sym, refl, subst, List, ℕ, true}
use Rattle.sql_model.specs.declared.changes.Added.{Added}
use Rattle.lake_model.specs.declared.entries.Fact.TheVariants as fact
use Rattle.lake_model.specs.Allowed.{MayCommit, MayConflict}
use Rattle.sql_model.specs.Changes.{is_unchanged}
use Rattle.lake_model.specs.State.{Transaction, after, state, transaction}
use Rattle.table_history.specs.Histories.{has_spare_rows, rows_for}
use Rattle.lake_core.specs.Facts as facts
use Rattle.lake_core.specs.Consistency.{chronicle_of}
use Rattle.lake_core.specs.Lakes.{Lake, noted, state_of}
use Rattle.lake_core.specs.declared.transactions.KeptTransaction.{KeptTransaction}
use Rattle.lake_core.specs.Rooms.{AreOpen, entries_for}
use Rattle.lake_core.proofs.CommitLemmas.{bag_ready, behind_last, commits_conflict, commits_nothing, commits_version, committed_stands, conflict_ready, entry_used, free_ready, may_conflict, ready_made, room_ready, rooms_committed, some_and, unchanged_is}
use Rattle.lake_core.proofs.ConsistencyLemmas.{adds_at, adds_same, ended_stands, forgotten_stands, consistent_at, consistent_more, last_same}
use Rattle.lake_core.proofs.lakes.LakeState.commit.Goals as goal

-- a transaction without a change

pub invariant_of-self : goal.invariant_of-self
invariant_of-self g c =
    let l = c.self.inside in
    let st = state (chronicle_of l.chronicle.entries) in
    let consistent = c.self.invariant in
    let session = c.args.who.session in
    let taken = c.take_reserved.ensures.taken st consistent.stands.open_ones in
    let ready = c.of-ready.ensures in
    let unchanged = unchanged_is (session, taken.transaction) c.take_reserved.result c.of-ready.result _ taken.is ready.removed ready.added c.is_unchanged.ensures ∙ c.if-is_unchanged.true in
    consistent_at c.args.who fact.Ended l.chronicle.entries c.push.new.self.entries c.entry.result c.push.ensures.entries c.entry.ensures _ _ _ _ _
    (consistent_more _ _ _ _ _ _ _ consistent.legal (some_and (λ (t : Transaction). is_unchanged t.pending ≡ true) (transaction st session) taken.transaction taken.opened unchanged)
    (ended_stands st _ session l.history l.running.items c.take_reserved.new.running.items l.catalog l.chronicle.spare c.push.new.self.spare l.last_number consistent.stands (c.take_reserved.ensures.ended st consistent.stands.open_ones) c.take_reserved.ensures.rooms
    (entry_used l.running.items c.take_reserved.new.running.items c.take_reserved.result l.chronicle.spare c.push.new.self.spare c.take_reserved.ensures.reserved (c.take_reserved.ensures.weights entries_for) consistent.stands.rooms.entries c.push.ensures.room)))

pub returns-then-is_unchanged-clause-entry : goal.returns-then-is_unchanged-clause-entry
returns-then-is_unchanged-clause-entry g c =
    let l = c.self.inside in
    let st = state (chronicle_of l.chronicle.entries) in
    let consistent = c.self.invariant in
    let session = c.args.who.session in
    let taken = c.take_reserved.ensures.taken st consistent.stands.open_ones in
    let ready = c.of-ready.ensures in
    let unchanged = unchanged_is (session, taken.transaction) c.take_reserved.result c.of-ready.result _ taken.is ready.removed ready.added c.is_unchanged.ensures ∙ c.if-is_unchanged.true in
    adds_same (sym (commits_nothing st session taken.transaction taken.opened unchanged) ∙ ap (λ (lake : Lake). facts.commitment (state_of lake) session) c.self.view_is)
    (adds_at c.args.who fact.Ended l.chronicle.entries c.push.new.self.entries c.entry.result c.push.ensures.entries c.entry.ensures l.running.items c.take_reserved.new.running.items c.take_reserved.ensures.rooms.keeps (invariant_of-self g c) c.args.self.now c.self.view_is)

pub returns-then-is_unchanged-clause-reply : goal.returns-then-is_unchanged-clause-reply
returns-then-is_unchanged-clause-reply g c =
    let l = c.self.inside in
    let st = state (chronicle_of l.chronicle.entries) in
    let consistent = c.self.invariant in
    let session = c.args.who.session in
    let taken = c.take_reserved.ensures.taken st consistent.stands.open_ones in
    let ready = c.of-ready.ensures in
    let unchanged = unchanged_is (session, taken.transaction) c.take_reserved.result c.of-ready.result _ taken.is ready.removed ready.added c.is_unchanged.ensures ∙ c.if-is_unchanged.true in
    ap facts.answer (sym (commits_nothing st session taken.transaction taken.opened unchanged) ∙ ap (λ (lake : Lake). facts.commitment (state_of lake) session) c.self.view_is)

-- a conflict

pub invariant_of-self-in-Some : goal.invariant_of-self-in-Some
invariant_of-self-in-Some g c =
    let l = c.self.inside in
    let st = state (chronicle_of l.chronicle.entries) in
    let consistent = c.self.invariant in
    let session = c.args.who.session in
    let taken = c.take_reserved.ensures.taken st consistent.stands.open_ones in
    let ready = c.of-ready.ensures in
    let unchanged = unchanged_is (session, taken.transaction) c.take_reserved.result c.of-ready.result _ taken.is ready.removed ready.added c.is_unchanged.ensures ∙ c.if-is_unchanged.false in
    let found = conflict_ready st l.catalog.rows (session, taken.transaction) c.take_reserved.result c.of-ready.result c.in-Some.seq consistent.stands.written taken.is (c.take_reserved.ensures.fits consistent.stands.rooms.fit) ready.snapshot ready.removed ready.room c.in-Some.ensures.found in
    consistent_at c.args.who (fact.Conflict c.in-Some.seq) l.chronicle.entries c.push-in-Some.new.self.entries c.entry-in-Some.result c.push-in-Some.ensures.entries c.entry-in-Some.ensures _ _ _ _ _
    (consistent_more _ _ _ _ _ _ _ consistent.legal (some_and (MayConflict st c.in-Some.seq) (transaction st session) taken.transaction taken.opened (may_conflict st c.in-Some.seq taken.transaction unchanged found))
    (ended_stands st _ session l.history l.running.items c.take_reserved.new.running.items l.catalog l.chronicle.spare c.push-in-Some.new.self.spare l.last_number consistent.stands (c.take_reserved.ensures.ended st consistent.stands.open_ones) c.take_reserved.ensures.rooms
    (entry_used l.running.items c.take_reserved.new.running.items c.take_reserved.result l.chronicle.spare c.push-in-Some.new.self.spare c.take_reserved.ensures.reserved (c.take_reserved.ensures.weights entries_for) consistent.stands.rooms.entries c.push-in-Some.ensures.room)))

pub returns-in-Some-clause-entry : goal.returns-in-Some-clause-entry
returns-in-Some-clause-entry g c =
    let l = c.self.inside in
    let st = state (chronicle_of l.chronicle.entries) in
    let consistent = c.self.invariant in
    let session = c.args.who.session in
    let taken = c.take_reserved.ensures.taken st consistent.stands.open_ones in
    let ready = c.of-ready.ensures in
    let unchanged = unchanged_is (session, taken.transaction) c.take_reserved.result c.of-ready.result _ taken.is ready.removed ready.added c.is_unchanged.ensures ∙ c.if-is_unchanged.false in
    let found = conflict_ready st l.catalog.rows (session, taken.transaction) c.take_reserved.result c.of-ready.result c.in-Some.seq consistent.stands.written taken.is (c.take_reserved.ensures.fits consistent.stands.rooms.fit) ready.snapshot ready.removed ready.room c.in-Some.ensures.found in
    adds_same (sym (commits_conflict st session c.in-Some.seq taken.transaction taken.opened unchanged found) ∙ ap (λ (lake : Lake). facts.commitment (state_of lake) session) c.self.view_is)
    (adds_at c.args.who (fact.Conflict c.in-Some.seq) l.chronicle.entries c.push-in-Some.new.self.entries c.entry-in-Some.result c.push-in-Some.ensures.entries c.entry-in-Some.ensures l.running.items c.take_reserved.new.running.items c.take_reserved.ensures.rooms.keeps (invariant_of-self-in-Some g c) c.args.self.now c.self.view_is)

pub returns-in-Some-clause-reply : goal.returns-in-Some-clause-reply
returns-in-Some-clause-reply g c =
    let l = c.self.inside in
    let st = state (chronicle_of l.chronicle.entries) in
    let consistent = c.self.invariant in
    let session = c.args.who.session in
    let taken = c.take_reserved.ensures.taken st consistent.stands.open_ones in
    let ready = c.of-ready.ensures in
    let unchanged = unchanged_is (session, taken.transaction) c.take_reserved.result c.of-ready.result _ taken.is ready.removed ready.added c.is_unchanged.ensures ∙ c.if-is_unchanged.false in
    let found = conflict_ready st l.catalog.rows (session, taken.transaction) c.take_reserved.result c.of-ready.result c.in-Some.seq consistent.stands.written taken.is (c.take_reserved.ensures.fits consistent.stands.rooms.fit) ready.snapshot ready.removed ready.room c.in-Some.ensures.found in
    ap facts.answer (sym (commits_conflict st session c.in-Some.seq taken.transaction taken.opened unchanged found) ∙ ap (λ (lake : Lake). facts.commitment (state_of lake) session) c.self.view_is)

-- a commit

pub apply-seq-requires-clause-behind : goal.apply-seq-requires-clause-behind
apply-seq-requires-clause-behind g c =
    let l = c.self.inside in
    behind_last (state (chronicle_of l.chronicle.entries)) l.history l.catalog.rows c.self.invariant.stands.history c.self.invariant.stands.written

pub apply-seq-requires-clause-tables : goal.apply-seq-requires-clause-tables
apply-seq-requires-clause-tables g c =
    let l = c.self.inside in
    room_ready l.running.items c.take_reserved.new.running.items c.take_reserved.result c.of-ready.result l.history l.catalog l.chronicle.spare c.self.invariant.stands.rooms c.of-ready.ensures.room c.of-ready.ensures.added c.take_reserved.ensures.weights

pub invariant_of-self-2 : goal.invariant_of-self-2
invariant_of-self-2 g c =
    let l = c.self.inside in
    let st = state (chronicle_of l.chronicle.entries) in
    let consistent = c.self.invariant in
    let session = c.args.who.session in
    let taken = c.take_reserved.ensures.taken st consistent.stands.open_ones in
    let ready = c.of-ready.ensures in
    let unchanged = unchanged_is (session, taken.transaction) c.take_reserved.result c.of-ready.result _ taken.is ready.removed ready.added c.is_unchanged.ensures ∙ c.if-is_unchanged.false in
    let free = free_ready st l.catalog.rows (session, taken.transaction) c.take_reserved.result c.of-ready.result consistent.stands.written taken.is (c.take_reserved.ensures.fits consistent.stands.rooms.fit) ready.snapshot ready.removed ready.room c.in_default.ensures.none in
    let is = c.apply-seq.ensures.seq ∙ ap (λ (n : ℕ). n + 1) (last_same st l.history consistent.stands.history) in
    let T : List Added → Type 0 = λ as_. (name : List ℕ) (rows : ℕ) → has_spare_rows l.history.spares name (rows_for name as_ + rows) ≡ true → has_spare_rows c.apply-seq.new.history.spares name rows ≡ true in
    let tables = subst T (λ i. (ready.added i).items) c.apply-seq.ensures.tables in
    let stands = committed_stands st session taken.transaction _ l.history c.apply-seq.new.history l.running.items c.take_reserved.new.running.items l.catalog c.apply-seq.new.catalog l.chronicle.spare c.push-2.new.self.spare l.last_number
    c.of-ready.result.removed.items c.of-ready.result.added.items c.of-ready.result.room consistent.stands taken.opened (bag_ready (session, taken.transaction) c.take_reserved.result c.of-ready.result taken.is ready.removed) ((λ i. (ready.added i).items) ∙ taken.is.added)
    (ready_made c.take_reserved.result c.of-ready.result (c.take_reserved.ensures.fits consistent.stands.rooms.fit) ready.removed ready.room) c.apply-seq.ensures.made c.apply-seq.ensures.rows (c.take_reserved.ensures.ended st consistent.stands.open_ones) c.take_reserved.ensures.rooms
    (rooms_committed l.running.items c.take_reserved.new.running.items c.take_reserved.result c.of-ready.result.room l.history c.apply-seq.new.history l.catalog c.apply-seq.new.catalog l.chronicle.spare c.push-2.new.self.spare consistent.stands.rooms ready.room
    c.take_reserved.ensures.rooms.fit c.take_reserved.ensures.weights c.push-2.ensures.room c.apply-seq.ensures.spare tables) in
    let A : List KeptTransaction → Type 0 = λ os. AreOpen (after st (noted c.args.who (fact.Committed c.apply-seq.result.seq [] []))).running os in
    let seen = c.forget_unseen.ensures.versions (after st (noted c.args.who (fact.Committed c.apply-seq.result.seq [] []))) (subst A (sym c.as_slice.ensures.value) stands.open_ones) stands.history in
    consistent_at c.args.who (fact.Committed c.apply-seq.result.seq [] []) l.chronicle.entries c.push-2.new.self.entries c.entry-2.result c.push-2.ensures.entries
    (c.entry-2.ensures ∙ (λ i. record { session = session; place = c.args.who.place; fact = c.committed.ensures i })) _ _ _ _ _
    (consistent_more _ _ _ _ _ _ _ consistent.legal
    (some_and (MayCommit true st c.apply-seq.result.seq [] [])
    (transaction st session) taken.transaction taken.opened
    (record { changed = unchanged; free = free; next = is; renames = refl; drops = refl }))
    (forgotten_stands _ _ c.apply-seq.new.history c.forget_unseen.new.history _ _ _ _ stands seen c.forget_unseen.ensures.rooms))

pub returns-clause-entry : goal.returns-clause-entry
returns-clause-entry g c =
    let l = c.self.inside in
    let st = state (chronicle_of l.chronicle.entries) in
    let consistent = c.self.invariant in
    let session = c.args.who.session in
    let taken = c.take_reserved.ensures.taken st consistent.stands.open_ones in
    let ready = c.of-ready.ensures in
    let unchanged = unchanged_is (session, taken.transaction) c.take_reserved.result c.of-ready.result _ taken.is ready.removed ready.added c.is_unchanged.ensures ∙ c.if-is_unchanged.false in
    let free = free_ready st l.catalog.rows (session, taken.transaction) c.take_reserved.result c.of-ready.result consistent.stands.written taken.is (c.take_reserved.ensures.fits consistent.stands.rooms.fit) ready.snapshot ready.removed ready.room c.in_default.ensures.none in
    let is = c.apply-seq.ensures.seq ∙ ap (λ (n : ℕ). n + 1) (last_same st l.history consistent.stands.history) in
    adds_same (sym (commits_version st session c.apply-seq.result.seq taken.transaction taken.opened unchanged free is) ∙ ap (λ (lake : Lake). facts.commitment (state_of lake) session) c.self.view_is)
    (adds_at c.args.who (fact.Committed c.apply-seq.result.seq [] []) l.chronicle.entries c.push-2.new.self.entries c.entry-2.result c.push-2.ensures.entries (c.entry-2.ensures ∙ (λ i. record { session = session; place = c.args.who.place; fact = c.committed.ensures i }))
    l.running.items c.take_reserved.new.running.items c.take_reserved.ensures.rooms.keeps (invariant_of-self-2 g c) c.args.self.now c.self.view_is)

pub returns-clause-reply : goal.returns-clause-reply
returns-clause-reply g c =
    let l = c.self.inside in
    let st = state (chronicle_of l.chronicle.entries) in
    let consistent = c.self.invariant in
    let session = c.args.who.session in
    let taken = c.take_reserved.ensures.taken st consistent.stands.open_ones in
    let ready = c.of-ready.ensures in
    let unchanged = unchanged_is (session, taken.transaction) c.take_reserved.result c.of-ready.result _ taken.is ready.removed ready.added c.is_unchanged.ensures ∙ c.if-is_unchanged.false in
    let free = free_ready st l.catalog.rows (session, taken.transaction) c.take_reserved.result c.of-ready.result consistent.stands.written taken.is (c.take_reserved.ensures.fits consistent.stands.rooms.fit) ready.snapshot ready.removed ready.room c.in_default.ensures.none in
    let is = c.apply-seq.ensures.seq ∙ ap (λ (n : ℕ). n + 1) (last_same st l.history consistent.stands.history) in
    ap facts.answer (sym (commits_version st session c.apply-seq.result.seq taken.transaction taken.opened unchanged free is) ∙ ap (λ (lake : Lake). facts.commitment (state_of lake) session) c.self.view_is)

use Rattle.std.proofs.Common.{List, [], ◌∷◌, ◌++◌, ⊎_elim, inl, inr, arith, ap, refl, sym}
use Rattle.std.proofs.Common.{subst, ◌∙◌}
use Rattle.turnstile.specs.Sessions.{IsOneOf, rooms_of}
use Rattle.turnstile.proofs.Sessions.{rooms_keep}
use Rattle.sharing_tests.specs.declared.turn_tests.Line.{Line}
use Rattle.sharing_tests.specs.Writers.{no_room}
use Rattle.sharing_tests.proofs.turn_tests.write_line.Goals as goal

pub leave-requires-clause-entries : goal.leave-requires-clause-entries
leave-requires-clause-entries g c =
    let entered = c.enter-journal.ensures in
    let line : Line = record { session = c.args.writer.now.session; turn = c.args.turn } in
    let mine = subst (λ l. IsOneOf l c.args.writer.now.session) (sym entered.sessions)
    (c.requires.writer.session c.args.writer.now.session refl) in
    ⊎_elim (λ same. inl (same ∙ sym entered.seen))
    (λ more. inr (line, more ∙ ap (λ (l : List Line). l ++ line ∷ []) (sym entered.seen), mine))
    c.append.ensures

pub returns-clause-writer : goal.returns-clause-writer
returns-clause-writer g c =
    let before = c.requires.writer.turns in
    let entered = c.enter-journal.ensures in
    let left = c.leave.ensures in
    let journal = c.append.new.journal in
    let now = left.sessions ∙ ap (rooms_of no_room journal) entered.sessions in record {
      resting = record { pass = left.pass; idle = left.idle };
      turns = omega (arith, before, entered.left, entered.taken, left.left, left.taken);
      session = λ n is.
          subst (λ l. IsOneOf l n) (sym now)
          (rooms_keep no_room c.append.new.journal _ _ (c.requires.writer.session n is));
    }

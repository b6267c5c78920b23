use Rattle.std.proofs.Common.{◌∙◌, ap}
use Rattle.lake_script.specs.Sessions.{ports_of}
use Rattle.lake_script.proofs.Lending.{returns_all, same_vec}
use Rattle.lake_script.proofs.Progress.{none_begun}
use Rattle.lake_script.proofs.running.run_script.Goals as goal

pub returns-in_err-sessions-clause-no_memory : goal.returns-in_err-sessions-clause-no_memory
returns-in_err-sessions-clause-no_memory g c = λ _. none_begun _ _

pub returns-clause-ports : goal.returns-clause-ports
returns-clause-ports g c =
    same_vec _ _ (c.return_ports.ensures.in_place ∙ c.take_sessions.ensures.in_place) (c.return_ports.ensures.capacity ∙ c.take_sessions.ensures.capacity)
    (c.return_ports.ensures.returned
    ∙ returns_all c.in_ok-sessions.sessions c.run_all-ended.new.sessions c.take_sessions.new.ports.items (c.run_all-ended.ensures.ports ∙ ap ports_of c.as_mut_slice.ensures.value)
    ∙ c.in_ok-sessions.ensures.lent)

use Rattle.sql_model.proofs.Crossing.{statements_cross}
use Rattle.lake_tests.proofs.thread_tests.a_script_is_lent_to_two_threads.Goals as goal

pub join-one-requires-send-F : goal.join-one-requires-send-F
join-one-requires-send-F g c κs = search statements_cross depth 20

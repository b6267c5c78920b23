use Rattle.sql_model.proofs.Crossing.{statements_cross}
use Rattle.lake_tests.proofs.thread_tests.handed.Goals as goal

pub join-lane-requires-send-F : goal.join-lane-requires-send-F
join-lane-requires-send-F g c κs within = search statements_cross depth 20

pub join-lane-requires-send-A : goal.join-lane-requires-send-A
join-lane-requires-send-A g c κs within = search statements_cross depth 20

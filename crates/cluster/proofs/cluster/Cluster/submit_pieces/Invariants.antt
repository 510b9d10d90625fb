use Rattle.std.proofs.Common.{◌≡◌, ◌≤◌, length, Some}
use Rattle.std.specs.Vec.{vec_capacity}
use Rattle.cluster.specs.Asks.{IsPassOf}
use Rattle.cluster.specs.Asking.{own_place, ArePieces}
use Rattle.cluster.proofs.cluster.Cluster.submit_pieces.Given as goal

abbrev pub invariant-loop-group : goal.invariant-loop-group
invariant-loop-group g l = record {
  pass : IsPassOf l.self l.pass;
  place : own_place l.pass.sessions.items l.ask.session ≡ Some l.k;
  pieces : ArePieces l.self l.ask l.view 0 l.all.items l.initial.pass l.pass;
  count : length l.all.items ≡ l.group;
  room : l.view.pg_num ≤ vec_capacity l.all;
}

use Rattle.sky_world.specs.Carried.{IsServing}
use Rattle.rows_world.proofs.play.go_on.Given as goal

-- the world serves over its site before each frame
abbrev pub invariant-loop : goal.invariant-loop
invariant-loop g l = IsServing g.S.Storage l.world.service l.site

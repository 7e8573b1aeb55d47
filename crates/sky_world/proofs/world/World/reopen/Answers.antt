use Rattle.sky_world.specs.World.{WorldView}
use Rattle.sky_world.proofs.AgainLaws.{reopened_as}
use Rattle.sky_world.proofs.world.World.reopen.Goals as goal

pub returns-clause-found : goal.returns-clause-found
returns-clause-found g c =
    let i = c.self.inside in
    let old : WorldView = record { settings = i.settings; service = i.service; sessions = i.sessions; ended = i.ended } in
    rw (← c.self.view_is)
    (reopened_as g.S.Storage old c.args.site.now c.open_site.new.site c.in_ok-files.files c.in_ok-files.opened c.reopen.new.self c.forget.new.self c.in_ok-files.ensures.found c.reopen.ensures c.forget.ensures)

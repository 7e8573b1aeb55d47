use Rattle.std.proofs.Common.{sym}
use Rattle.sky_script.specs.Frame.{Begin, Bytes, Close, Stat, Restart, RestartWithoutJournal, End, parts_of}
use Rattle.sky_script.proofs.FrameLaws.{length-frame, length-in_moment}
use Rattle.sky_script.proofs.frame.Frame.length.Goals as goal

pub returns-in-Begin : goal.returns-in-Begin
returns-in-Begin c = rw c.in-Begin.is (sym (length-frame (parts_of (Begin c.in-Begin.session))))

pub returns-in-Bytes : goal.returns-in-Bytes
returns-in-Bytes c = rw c.in-Bytes.is (sym (length-frame (parts_of (Bytes c.in-Bytes.session c.in-Bytes.payload.now))))

pub returns-in-Close : goal.returns-in-Close
returns-in-Close c = rw c.in-Close.is (sym (length-frame (parts_of (Close c.in-Close.session))))

pub returns-in-SetMoment : goal.returns-in-SetMoment
returns-in-SetMoment c = rw c.in-SetMoment.is (sym (length-in_moment c.in-SetMoment.field-0))

pub returns-in-Stat : goal.returns-in-Stat
returns-in-Stat c = rw c.in-Stat.is (sym (length-frame (parts_of Stat)))

pub returns-in-Restart : goal.returns-in-Restart
returns-in-Restart c = rw c.in-Restart.is (sym (length-frame (parts_of Restart)))

pub returns-in-RestartWithoutJournal : goal.returns-in-RestartWithoutJournal
returns-in-RestartWithoutJournal c = rw c.in-RestartWithoutJournal.is (sym (length-frame (parts_of RestartWithoutJournal)))

pub returns-in-End : goal.returns-in-End
returns-in-End c = rw c.in-End.is (sym (length-frame (parts_of End)))

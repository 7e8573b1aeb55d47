-- What the values of the program stand for, wherever their bytes lie.
use Rattle.sky_outside.specs.declared.whole.FillFault.{FillFault}
use Rattle.sky_outside.specs.declared.whole.FillFault.TheVariants as fill
use Rattle.sky_script.specs.Frame as frames
use Rattle.sky_script.specs.declared.frame.Frame.{Frame}
use Rattle.sky_script.specs.declared.frame.Frame.TheVariants.{Begin, Bytes, Close, SetMoment, Stat, Restart, RestartWithoutJournal, End}
use Rattle.sky_script.specs.declared.frame.OutFrame.{OutFrame}
use Rattle.sky_script.specs.declared.frame.OutFrame.TheVariants.{Reply, Closed, Counted, Opened, Ended}
use Rattle.sky_script.specs.declared.reading.FrameFault.{FrameFault}
use Rattle.sky_script.specs.declared.reading.FrameFault.TheVariants as fault

-- the frame that goes in
abbrev pub frame_of : Frame → frames.InFrame
frame_of (Begin session) = frames.Begin session
frame_of (Bytes session payload) = frames.Bytes session payload.now
frame_of (Close session) = frames.Close session
frame_of (SetMoment at) = frames.SetMoment at
frame_of Stat = frames.Stat
frame_of Restart = frames.Restart
frame_of RestartWithoutJournal = frames.RestartWithoutJournal
frame_of End = frames.End

-- the frame that comes out
abbrev pub out_frame_of : OutFrame → frames.OutFrame
out_frame_of (Reply session bytes) = frames.Reply session bytes.now
out_frame_of (Closed session) = frames.Closed session
out_frame_of (Counted stats) = frames.Counted stats
out_frame_of (Opened epoch changes journal) = frames.Opened epoch changes journal
out_frame_of (Ended status) = frames.Ended status

-- which fault of a frame is a buffer that isn't filled
abbrev pub fault_of : FillFault → FrameFault
fault_of fill.Early = fault.Early
fault_of fill.Broken = fault.SourceFault

-- Streams and payloads of bytes: of numbers below 256.
use Rattle.std.specs.List.{AllByRecursion}
use Rattle.sky_script.specs.Frame as frame
use Rattle.sky_script.specs.Frame.{InFrame}
use Rattle.sky_xdr.specs.Encoding.{AreBytes}
use Rattle.sky_world.specs.Meaning.{State, Session, Absent, Open, Closed}

-- a session has a stream of bytes, if it is open
abbrev pub HasBytes : Session → Type 0
HasBytes Absent = Unit {0}
HasBytes (Open stream) = AreBytes stream
HasBytes Closed = Unit {0}

-- each session does
abbrev pub HasByteStreams : State → Type 0
HasByteStreams state = AllByRecursion HasBytes state.sessions

-- a frame carries bytes, if it carries any
abbrev pub CarriesBytes : InFrame → Type 0
CarriesBytes (frame.Bytes session payload) = AreBytes payload
CarriesBytes _ = Unit {0}

-- The parts of arguments: each is read from the bytes that are it, and from no others.
use Rattle.std.proofs.Common.{ℕ, List, arith}
use Rattle.sky_base.specs.Limits.{max_handle_bytes}
use Rattle.sky_nfs.specs.declared.call.CreateHow.{CreateHow}
use Rattle.sky_nfs.specs.declared.call.CreateHow.TheVariants.{Unchecked, Guarded, Exclusive}
use Rattle.sky_nfs.specs.declared.call.MknodData.{MknodData}
use Rattle.sky_nfs.specs.declared.call.MknodData.TheVariants.{Regular, Directory, Block, Character, SymbolicLink, Socket, Pipe}
use Rattle.sky_nfs.specs.declared.call.SetTime.{SetTime}
use Rattle.sky_nfs.specs.declared.call.SetTime.TheVariants.{Keep, Server, Client}
use Rattle.sky_nfs.specs.declared.call.StableHow.{StableHow}
use Rattle.sky_nfs.specs.declared.call.StableHow.TheVariants.{Unstable, DataSync, FileSync}
use Rattle.sky_xdr.specs.declared.fault.XdrFault.TheVariants.{BadEnum}
use Rattle.sky_xdr.proofs.Grammars.{Reads, Again, uint_reads, uhyper_reads, fixed_reads, opaque_reads, optional_reads, then_again, last_again, alone_again, give_again, then_sound, last_sound, alone_sound, refuse_sound, case_sound, in_then}
use Rattle.sky_args.specs.Parts.{max_text_bytes, verifier_size, IsHandle, IsText, IsVerifier, IsDirOpArgs, IsMoment, IsDevice, IsSetTime, IsSetAttr, IsGuard, IsStableHow, IsCreateHow, IsMknodData}
use Rattle.sky_args.specs.Reading.{handle_at, text_at, verifier_at, dir_op_args_at, moment_at, device_at, client_time_at, set_time_from, set_time_at, set_attr_at, guard_at, stable_how_from, stable_how_at, unchecked_at, guarded_at, exclusive_at, create_how_from, create_how_at, block_at, character_at, socket_at, pipe_at, mknod_data_from, mknod_data_at}

pub handle_reads : Reads handle_at IsHandle
unfolding handle_at
handle_reads = opaque_reads max_handle_bytes (omega arith)

pub text_reads : Reads text_at IsText
unfolding text_at
text_reads = opaque_reads max_text_bytes (omega arith)

pub verifier_reads : Reads verifier_at IsVerifier
unfolding verifier_at
verifier_reads = fixed_reads verifier_size

pub dir_op_args_reads : Reads dir_op_args_at IsDirOpArgs
unfolding dir_op_args_at
dir_op_args_reads = record {
  again = λ at bytes is. then_again _ handle_reads (λ y is_y. last_again _ text_reads is_y) is;
  sound = then_sound _ handle_reads (λ directory. last_sound _ text_reads (λ name y is_y x is_x. in_then x y is_x is_y));
}

pub moment_reads : Reads moment_at IsMoment
unfolding moment_at
moment_reads = record {
  again = λ m bytes is. then_again _ uint_reads (λ y is_y. last_again _ uint_reads is_y) is;
  sound = then_sound _ uint_reads (λ seconds. last_sound _ uint_reads (λ nanos y is_y x is_x. in_then x y is_x is_y));
}

pub device_reads : Reads device_at IsDevice
unfolding device_at
device_reads = record {
  again = λ d bytes is. then_again _ uint_reads (λ y is_y. last_again _ uint_reads is_y) is;
  sound = then_sound _ uint_reads (λ major. last_sound _ uint_reads (λ minor y is_y x is_x. in_then x y is_x is_y));
}

-- ---- attributes

set_time_again : (t : SetTime) (bytes : List ℕ) → IsSetTime t bytes → Again set_time_at t bytes
unfolding set_time_at set_time_from client_time_at
set_time_again Keep bytes is = alone_again _ uint_reads (give_again Keep) is
set_time_again Server bytes is = alone_again _ uint_reads (give_again Server) is
set_time_again (Client m) bytes is = then_again _ uint_reads (λ y is_y. last_again _ moment_reads is_y) is

pub set_time_reads : Reads set_time_at IsSetTime
unfolding set_time_at set_time_from client_time_at
set_time_reads = record {
  again = set_time_again;
  sound = then_sound _ uint_reads (λ n.
      case_sound IsSetTime n 0 (alone_sound IsSetTime 0 Keep (λ x is. is))
      (case_sound IsSetTime n 1 (alone_sound IsSetTime 1 Server (λ x is. is))
      (case_sound IsSetTime n 2 (last_sound _ moment_reads (λ m y is_y x is_x. in_then x y is_x is_y))
      (refuse_sound BadEnum))));
}

pub set_attr_reads : Reads set_attr_at IsSetAttr
unfolding set_attr_at
set_attr_reads = record {
  again = λ a bytes is.
      then_again _ (optional_reads uint_reads) (λ y is_y.
      then_again _ (optional_reads uint_reads) (λ y is_y.
      then_again _ (optional_reads uint_reads) (λ y is_y.
      then_again _ (optional_reads uhyper_reads) (λ y is_y.
      then_again _ set_time_reads (λ y is_y. last_again _ set_time_reads is_y) is_y) is_y) is_y) is_y) is;
  sound =
      then_sound _ (optional_reads uint_reads) (λ mode.
      then_sound _ (optional_reads uint_reads) (λ uid.
      then_sound _ (optional_reads uint_reads) (λ gid.
      then_sound _ (optional_reads uhyper_reads) (λ size.
      then_sound _ set_time_reads (λ atime.
      last_sound _ set_time_reads (λ mtime z is_z y is_y x is_x w is_w v is_v u is_u.
      in_then u _ is_u (in_then v _ is_v (in_then w _ is_w (in_then x _ is_x (in_then y z is_y is_z))))))))));
}

pub guard_reads : Reads guard_at IsGuard
unfolding guard_at
guard_reads = optional_reads moment_reads

-- ---- what WRITE, CREATE and MKNOD carry

stable_how_again : (how : StableHow) (bytes : List ℕ) → IsStableHow how bytes → Again stable_how_at how bytes
unfolding stable_how_at stable_how_from
stable_how_again Unstable bytes is = alone_again _ uint_reads (give_again Unstable) is
stable_how_again DataSync bytes is = alone_again _ uint_reads (give_again DataSync) is
stable_how_again FileSync bytes is = alone_again _ uint_reads (give_again FileSync) is

pub stable_how_reads : Reads stable_how_at IsStableHow
unfolding stable_how_at stable_how_from
stable_how_reads = record {
  again = stable_how_again;
  sound = then_sound _ uint_reads (λ n.
      case_sound IsStableHow n 0 (alone_sound IsStableHow 0 Unstable (λ x is. is))
      (case_sound IsStableHow n 1 (alone_sound IsStableHow 1 DataSync (λ x is. is))
      (case_sound IsStableHow n 2 (alone_sound IsStableHow 2 FileSync (λ x is. is))
      (refuse_sound BadEnum))));
}

create_how_again : (how : CreateHow) (bytes : List ℕ) → IsCreateHow how bytes → Again create_how_at how bytes
unfolding create_how_at create_how_from unchecked_at guarded_at exclusive_at
create_how_again (Unchecked a) bytes is = then_again _ uint_reads (λ y is_y. last_again _ set_attr_reads is_y) is
create_how_again (Guarded a) bytes is = then_again _ uint_reads (λ y is_y. last_again _ set_attr_reads is_y) is
create_how_again (Exclusive v) bytes is = then_again _ uint_reads (λ y is_y. last_again _ verifier_reads is_y) is

pub create_how_reads : Reads create_how_at IsCreateHow
unfolding create_how_at create_how_from unchecked_at guarded_at exclusive_at
create_how_reads = record {
  again = create_how_again;
  sound = then_sound _ uint_reads (λ n.
      case_sound IsCreateHow n 0 (last_sound _ set_attr_reads (λ a y is_y x is_x. in_then x y is_x is_y))
      (case_sound IsCreateHow n 1 (last_sound _ set_attr_reads (λ a y is_y x is_x. in_then x y is_x is_y))
      (case_sound IsCreateHow n 2 (last_sound _ verifier_reads (λ v y is_y x is_x. in_then x y is_x is_y))
      (refuse_sound BadEnum))));
}

mknod_data_again : (what : MknodData) (bytes : List ℕ) → IsMknodData what bytes → Again mknod_data_at what bytes
unfolding mknod_data_at mknod_data_from block_at character_at socket_at pipe_at
mknod_data_again Regular bytes is = alone_again _ uint_reads (give_again Regular) is
mknod_data_again Directory bytes is = alone_again _ uint_reads (give_again Directory) is
mknod_data_again (Block a d) bytes is = then_again _ uint_reads (λ y is_y. then_again _ set_attr_reads (λ z is_z. last_again _ device_reads is_z) is_y) is
mknod_data_again (Character a d) bytes is = then_again _ uint_reads (λ y is_y. then_again _ set_attr_reads (λ z is_z. last_again _ device_reads is_z) is_y) is
mknod_data_again SymbolicLink bytes is = alone_again _ uint_reads (give_again SymbolicLink) is
mknod_data_again (Socket a) bytes is = then_again _ uint_reads (λ y is_y. last_again _ set_attr_reads is_y) is
mknod_data_again (Pipe a) bytes is = then_again _ uint_reads (λ y is_y. last_again _ set_attr_reads is_y) is

pub mknod_data_reads : Reads mknod_data_at IsMknodData
unfolding mknod_data_at mknod_data_from block_at character_at socket_at pipe_at
mknod_data_reads = record {
  again = mknod_data_again;
  sound = then_sound _ uint_reads (λ n.
      case_sound IsMknodData n 1 (alone_sound IsMknodData 1 Regular (λ x is. is))
      (case_sound IsMknodData n 2 (alone_sound IsMknodData 2 Directory (λ x is. is))
      (case_sound IsMknodData n 3 (then_sound _ set_attr_reads (λ a. last_sound _ device_reads (λ d z is_z y is_y x is_x. in_then x _ is_x (in_then y z is_y is_z))))
      (case_sound IsMknodData n 4 (then_sound _ set_attr_reads (λ a. last_sound _ device_reads (λ d z is_z y is_y x is_x. in_then x _ is_x (in_then y z is_y is_z))))
      (case_sound IsMknodData n 5 (alone_sound IsMknodData 5 SymbolicLink (λ x is. is))
      (case_sound IsMknodData n 6 (last_sound _ set_attr_reads (λ a y is_y x is_x. in_then x y is_x is_y))
      (case_sound IsMknodData n 7 (last_sound _ set_attr_reads (λ a y is_y x is_x. in_then x y is_x is_y))
      (refuse_sound BadEnum))))))));
}

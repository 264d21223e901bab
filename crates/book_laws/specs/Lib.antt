pub mod BookRooms
